-- Finite maps of files.
use Rattle.std.proofs.Common.{◌≡◌, ℕ, List, Option, None, Some, Bool, true, false, cond, refl, sym, ap, ◌∙◌}
use Rattle.std.specs.Ordering.{nat_cmp, eq_by_cmp}
use Rattle.std.specs.Cmp.Lexicographic.{slice_cmp}
use Rattle.std.specs.FinMap.{get, insert, remove, same_map, get-remove, get-insert, slice_cmp-IsAntisymmetric, nat_cmp-IsAntisymmetric}
use Rattle.std.proofs.lemmas.Cmp.{nat_list_cmp_total}
use Rattle.sil_base.specs.Files.{Files}

twice : (b : Bool) (v : List ℕ) (o : Option (List ℕ)) → cond b None (cond b (Some v) o) ≡ cond b None o
twice true v o = refl
twice false v o = refl

-- without the file that was set, all is as before
pub remove-insert : (m : Files) (k v : List ℕ) → remove (insert m k v) k ≡ remove m k
remove-insert m k v =
    same_map nat_list_cmp_total (slice_cmp-IsAntisymmetric nat_cmp-IsAntisymmetric) (remove (insert m k v) k) (remove m k)
    (λ q. get-remove nat_list_cmp_total (insert m k v) k q ∙ ap (λ x. cond (eq_by_cmp (slice_cmp nat_cmp) q k) None x) (get-insert nat_list_cmp_total m k v q) ∙ twice (eq_by_cmp (slice_cmp nat_cmp) q k) v (get m q) ∙ sym (get-remove nat_list_cmp_total m k q))
