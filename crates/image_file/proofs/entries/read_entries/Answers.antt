use Rattle.std.proofs.Common.{◌≡◌, ◌∙◌, ◌++◌, [], ◌∷◌, List, ℕ, map, refl, ap, sym, arith}
use Rattle.std.proofs.lemmas.Grind.{common_steps}
use Rattle.std.proofs.lemmas.List.{append-nil}
use Rattle.std.specs.List.{flat_map}
use Rattle.image_file.specs.Image.{entry_of}
use Rattle.image_file.specs.Spelling.{entry_part}
use Rattle.image_file.proofs.SpelledEntries.{entry_after, one_more, fit_more, none_left, in_two}
use Rattle.image_file.proofs.entries.read_entries.Goals as goal

pub returns-in_default-read_entry : goal.returns-in_default-read_entry
returns-in_default-read_entry c = (
  refl,
  λ es h.
      let cut = c.in-Some.ensures.cases in
      let two : c.loop-entry.rest.now ≡ c.in-Some.entry.now ++ c.in-Some.more.now = in_two 16 _ _ _ cut.1 cut.2 in
      let front = map entry_of c.loop-entry.entries.items in
      let after = entry_after front es c.in-Some.entry.now c.in-Some.more.now (ap (λ (xs : List ℕ). flat_map entry_part front ++ xs) (sym two) ∙ sym c.loop-entry.invariant.bytes ∙ h) cut.3 in
      c.in_default-read_entry.ensures after.0 after.1,
)

pub loop-entry-preserved : goal.loop-entry-preserved
loop-entry-preserved c = record {
  size = grind (arith, common_steps);
  bytes =
      let cut = c.in-Some.ensures.cases in
      let two : c.loop-entry.rest.now ≡ c.in-Some.entry.now ++ c.in-Some.more.now = in_two 16 _ _ _ cut.1 cut.2 in
      let more : c.push.new.self.items ≡ c.loop-entry.entries.items ++ c.in-Some-read_entry.entry ∷ [] = grind (arith, common_steps) in
      one_more _ _ _ _ _ _ _ c.loop-entry.invariant.bytes two c.in-Some-read_entry.ensures.0 more;
  fit =
      let more : c.push.new.self.items ≡ c.loop-entry.entries.items ++ c.in-Some-read_entry.entry ∷ [] = grind (arith, common_steps) in
      fit_more _ _ _ c.loop-entry.invariant.fit c.in-Some-read_entry.ensures.1 c.in-Some-read_entry.ensures.2 more;
}

pub returns : goal.returns
returns c =
    let left = none_left _ c.args.count c.args.bytes.now c.loop-entry.rest.now c.requires c.loop-entry.invariant.size c.in_default.ensures.cases in
    (c.loop-entry.invariant.bytes ∙ ap (λ (xs : List ℕ). flat_map entry_part (map entry_of c.loop-entry.entries.items) ++ xs) left.0 ∙ append-nil _, left.1, c.loop-entry.invariant.fit)
