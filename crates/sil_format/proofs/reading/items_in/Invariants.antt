use Rattle.std.proofs.Common.{◌≡◌, ℕ, suc, ◌<◌, length}
use Rattle.std.specs.Prelude.{IfSome}
use Rattle.std.specs.Option.{option_map, option_map_or}
use Rattle.sil_format.specs.FormatReading.{items_in, read_on}
use Rattle.sil_format.proofs.ReadLemmas.{after}
use Rattle.sil_format.proofs.reading.items_in.Given as goal

abbrev pub invariant-loop-next : goal.invariant-loop-next
invariant-loop-next l =
    (most : ℕ) × IfSome l.next (λ rest. length rest.now < most)
    × (items_in (suc (length l.bytes)) l.bytes ≡ after l.items.items (read_on (items_in most) (option_map (λ rest. rest.now) l.next)))

abbrev pub decreases-loop-next : goal.decreases-loop-next
decreases-loop-next l = option_map_or (λ rest. suc (length rest.now)) l.next 0
