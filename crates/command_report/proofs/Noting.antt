-- Notes one after another.
use Rattle.std.proofs.Common.{◌≡◌, ℕ, zero, suc, ◌+◌, ◌<◌, List, [], ◌∷◌, ◌++◌, length, take, get_or, Option, None, Some, IfSome, refl, sym, ap, subst, ◌∙◌, arith, append_assoc}
use Rattle.std.proofs.lemmas.Grind.{common_steps}
use Rattle.sil_base.specs.Sinks.{Puts, AppendsPart}
use Rattle.sil_base.specs.declared.sink.Put.{Put}
use Rattle.sil_base.specs.declared.sink.Put.TheVariants.{Ok, Failed, Memory}
use Rattle.sil_base.specs.declared.line.Fault.{Fault}
use Rattle.command_report.specs.Endings.{fault_line, fault_lines}
use Rattle.command_report.specs.Noted.{NotesLine, NotesMore, Noted, without_memory}

append-none : (xs : List ℕ) → xs ++ [] ≡ xs
append-none xs = grind (arith, common_steps)

-- a part of a line after a text
part-more : (text line t : List ℕ) (z : Option (List ℕ)) → AppendsPart line (t ++ text) z → AppendsPart (text ++ line) t z
part-more text line t z after =
    (text ++ after.0, after.1, append_assoc text after.0 after.1 ∙ ap (λ l. text ++ l) after.2, after.3 ∙ ap Some (append_assoc t text after.0))

-- a put of a line after a text
puts-part : (put : Put) (text line : List ℕ) (x y z : Option (List ℕ)) → IfSome x (λ t. y ≡ Some (t ++ text)) → Puts put line y z → IfSome x (λ t. AppendsPart (text ++ line) t z)
puts-part put text line None y z whole puts = tt
puts-part Ok text line (Some t) y z whole puts = part-more text line t z (line, [], append-none line, rw whole at puts)
puts-part Failed text line (Some t) y z whole puts = part-more text line t z (rw whole at puts)
puts-part Memory text line (Some t) y z whole puts = part-more text line t z (rw whole at puts)

puts-whole : (text line : List ℕ) (x y z : Option (List ℕ)) → IfSome x (λ t. y ≡ Some (t ++ text)) → Puts Ok line y z → IfSome x (λ t. z ≡ Some (t ++ (text ++ line)))
puts-whole text line None y z whole puts = tt
puts-whole text line (Some t) y z whole puts = (rw whole at puts) ∙ ap Some (append_assoc t text line)

-- a part of a text is a part of a longer one
part-kept : (text line : List ℕ) (x y : Option (List ℕ)) → IfSome x (λ t. AppendsPart text t y) → IfSome x (λ t. AppendsPart (text ++ line) t y)
part-kept text line None y part = tt
part-kept text line (Some t) y part = (part.0, part.1 ++ line, sym (append_assoc part.0 part.1 line) ∙ ap (λ l. l ++ line) part.2, part.3)

-- what was noted goes on by a line
pub noted-more : (so_far put : Put) (text line : List ℕ) (x y z : Option (List ℕ)) (b c d : ℕ) → Noted so_far text x y b c → NotesLine so_far line put y z c d → Noted put (text ++ line) x z b d
noted-more Ok put text line x y z b c d noted more = record {
  whole = λ e. puts-whole text line x y z (noted.whole refl) (rw e at more.0);
  part = puts-part put text line x y z (noted.whole refl) more.0;
  count = omega (arith, noted.count, more.1);
  failed = λ e. let rose = more.2 e in omega (arith, noted.count);
}
noted-more Failed put text line x y z b c d noted more = record {
  whole = λ e. let no : Failed ≡ Ok = sym more.0 ∙ e in absurd (let none : ⊥ = cc in none);
  part = rw more.1 (part-kept text line x y noted.part);
  count = omega (arith, noted.count, more.2);
  failed = λ e. let rose = noted.failed refl in omega (arith, more.2);
}
noted-more Memory put text line x y z b c d noted more = record {
  whole = λ e. let no : Memory ≡ Ok = sym more.0 ∙ e in absurd (let none : ⊥ = cc in none);
  part = rw more.1 (part-kept text line x y noted.part);
  count = omega (arith, noted.count, more.2);
  failed = λ e. let no : Memory ≡ Failed = sym more.0 ∙ e in absurd (let none : ⊥ = cc in none);
}

-- and by nothing
pub noted-none : (put : Put) (text : List ℕ) (x y : Option (List ℕ)) (b c : ℕ) → Noted put text x y b c → Noted put (text ++ []) x y b c
noted-none put text x y b c noted = rw (append-none text) noted

-- nothing was noted so far
pub noted-nothing : (x : Option (List ℕ)) (b : ℕ) → Noted Ok [] x x b b
noted-nothing None b = record { whole = λ e. tt; part = tt; count = omega arith; failed = λ e. absurd (let none : ⊥ = cc in none) }
noted-nothing (Some t) b = record {
  whole = λ e. ap Some (sym (append-none t));
  part = ([], [], refl, ap Some (sym (append-none t)));
  count = omega arith;
  failed = λ e. absurd (let none : ⊥ = cc in none);
}

lines-more : (faults : List Fault) (i : ℕ) (d : Fault) → i < length faults → fault_lines (take (i + 1) faults) ≡ fault_lines (take i faults) ++ fault_line (get_or faults i d)
lines-more [] i d h = absurd (omega arith)
lines-more (fault ∷ faults) zero d h = append-none (fault_line fault)
lines-more (fault ∷ faults) (suc i) d h =
    let next : suc i + 1 ≡ suc (i + 1) = omega arith in
    ap (λ k. fault_lines (take k (fault ∷ faults))) next
    ∙ ap (λ l. fault_line fault ++ l) (lines-more faults i d (omega arith))
    ∙ sym (append_assoc (fault_line fault) (fault_lines (take i faults)) (fault_line (get_or faults i d)))

-- a line that is put, or was not since an earlier put was not Ok
pub notes-line : (so_far put : Put) (line : List ℕ) (y z : Option (List ℕ)) (c d : ℕ) → NotesLine so_far line put y z c d → NotesMore so_far line put y z c d
notes-line so_far put line y z c d more = λ text first n noted. noted-more so_far put text line first y z n c d noted more

-- nothing is noted
pub notes-none : (put : Put) (y : Option (List ℕ)) (c : ℕ) → NotesMore put [] put y y c c
notes-none put y c = λ text first n noted. noted-none put text first y n c noted

-- one text after another
pub notes-then : (so_far between put : Put) (one other : List ℕ) (x y z : Option (List ℕ)) (b c d : ℕ) → NotesMore so_far one between x y b c → NotesMore between other put y z c d → NotesMore so_far (one ++ other) put x z b d
notes-then so_far between put one other x y z b c d first second = λ text before n noted.
    subst (λ l. Noted put l before z n d) (append_assoc text one other) (second (text ++ one) before n (first text before n noted))

-- what is noted from the start
pub noted-alone : (put : Put) (line : List ℕ) (x y : Option (List ℕ)) (b c : ℕ) → NotesMore Ok line put x y b c → Noted put line x y b c
noted-alone put line x y b c more = more [] x b (noted-nothing x b)

-- the lines of faults go on by the next one
pub notes-fault : (so_far between put : Put) (faults : List Fault) (i : ℕ) (d : Fault) (x y z : Option (List ℕ)) (b c e : ℕ) → i < length faults → NotesMore so_far (fault_lines (take i faults)) between x y b c → NotesMore between (fault_line (get_or faults i d)) put y z c e → NotesMore so_far (fault_lines (take (i + 1) faults)) put x z b e
notes-fault so_far between put faults i d x y z b c e below first next =
    rw (lines-more faults i d below) (notes-then so_far between put (fault_lines (take i faults)) (fault_line (get_or faults i d)) x y z b c e first next)
