-- Notes on a sink.
use Rattle.std.specs.Prelude.{◌≡◌, ℕ, ◌≤◌, List, [], ◌++◌, codes, ◌==◌, ◌||◌, Option, Some, IfSome, if◌then◌else◌, nat_lt}
use Rattle.sil_base.specs.Causes.{Rose}
use Rattle.sil_base.specs.Sinks.{Puts, AppendsPart}
use Rattle.sil_base.specs.declared.sink.Put.{Put}
use Rattle.sil_base.specs.declared.sink.Put.TheVariants.{Ok, Failed, Memory}
use Rattle.command_report.specs.declared.ending.Ending.{Ending}
use Rattle.command_report.specs.Endings.{line_of}

-- one more line, after the first put that was not Ok if there was one
abbrev pub NotesLine : Put → List ℕ → Put → Option (List ℕ) → Option (List ℕ) → ℕ → ℕ → Type 0
NotesLine Ok line put before after b a = Puts put line before after × (b ≤ a) × (put ≡ Failed → Rose b a)
NotesLine Failed line put before after b a = (put ≡ Failed) × (after ≡ before) × (a ≡ b)
NotesLine Memory line put before after b a = (put ≡ Memory) × (after ≡ before) × (a ≡ b)

-- what comes of a line for which there is no memory
abbrev pub without_memory : Put → Put
without_memory Ok = Memory
without_memory Failed = Failed
without_memory Memory = Memory

-- a text was noted whole, or a part of it from the front, up to the first put that was not Ok
pub record Noted (put : Put) (text : List ℕ) (before after : Option (List ℕ)) (b a : ℕ) : Type 0 where
  pub whole : put ≡ Ok → IfSome before (λ t. after ≡ Some (t ++ text))
  pub part : IfSome before (λ t. AppendsPart text t after)
  pub count : b ≤ a
  pub failed : put ≡ Failed → Rose b a

-- what was noted so far goes on by a text, so that it is noted whole, or a part of it from the front, up to the first put that was not Ok
abbrev pub NotesMore : Put → List ℕ → Put → Option (List ℕ) → Option (List ℕ) → ℕ → ℕ → Type 0
NotesMore so_far more put before after b a = (text : List ℕ) (first : Option (List ℕ)) (n : ℕ) → Noted so_far text first before n b → Noted put (text ++ more) first after n a

-- a status after the notes: where a put failed, 14 stands for what is no fault yet
abbrev pub settled : Put → ℕ → ℕ
settled Ok code = code
settled Failed code = if nat_lt code 10 || (code == 16) then 14 else code
settled Memory code = 12

-- the line that follows where finishes failed
abbrev pub finish_lines : ℕ → List ℕ
finish_lines failed = if failed == 0 then [] else codes "finish fault\n"

-- the text on notes
abbrev pub text_of : Ending → ℕ → List ℕ
text_of end failed = line_of end ++ finish_lines failed
