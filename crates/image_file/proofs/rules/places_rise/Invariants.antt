use Rattle.std.proofs.Common.{◌≡◌, ℕ, ◌<◌, ◌^◌, map, drop, get_or}
use Rattle.sil_macros.specs.declared.names.Macro.{Macro}
use Rattle.sil_base.specs.declared.places.TheConstants.{FIRST_WORD}
use Rattle.image_file.specs.Image.{places_rise, entry_of}
use Rattle.image_file.proofs.rules.places_rise.Given as goal

-- the statements that are left decide, and the cards so far fit
abbrev pub invariant-loop-place : goal.invariant-loop-place
invariant-loop-place l = record {
  places : places_rise FIRST_WORD l.end (map entry_of l.statements) ≡ places_rise l.least l.end (map entry_of (drop l.place-index l.statements));
  cards : (k : ℕ) (d : ℕ × ℕ × Macro) → k < l.place-index → (get_or l.statements k d).1 < 2 ^ 32;
}
