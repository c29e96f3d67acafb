-- Operations, and jumps of tables, appended one by one.
use Rattle.std.proofs.Common.{◌≡◌, ℕ, suc, ◌+◌, ◌-◌, ◌*◌, ◌^◌, ◌<◌, ◌≤◌, List, [], ◌∷◌, ◌++◌, length, drop, get_or, map, take, Some, None, sym, ap, subst, ◌∙◌, arith, append_assoc}
use Rattle.std.proofs.lemmas.List.{append-nil, drop_all, drop_more, map_more, take_all}
use Rattle.std.proofs.lemmas.List.Elements.{All-more}
use Rattle.std.proofs.lemmas.Option.{slice_get-get_or}
use Rattle.std.specs.Prelude.{All, slice_get}
use Rattle.rv_isa.specs.declared.instr.Instr.{Instr}
use Rattle.layout_params.specs.Parameters.{Settings}
use Rattle.layout_params.specs.Sizes.{Sizes}
use Rattle.sil_micro.specs.declared.op.Op.{Op}
use Rattle.sil_micro.specs.Codes.{MicroCode, place_of, told}
use Rattle.rv_straight.specs.Jumps.{leap, leap_code}
use Rattle.rv_operations.specs.declared.places.Links.{Links}
use Rattle.rv_operations.specs.declared.places.Routines.{Routines}
use Rattle.rv_operations.specs.OpCodes.{instructions, op_length}
use Rattle.rv_operations.specs.Links.{links_of}
use Rattle.rv_operations.specs.Switch.{led}
use Rattle.rv_emit.specs.Code.{length_of, number_of, op_place, ops_code, place_from, places_of, routines_at, site_of, table_code}
use Rattle.rv_emit.specs.Emits.{CanEmit}
use Rattle.rv_emit.specs.Planned.{IsWord, leads, operations_of, routine_of, table_of}
use Rattle.rv_emit.specs.declared.plan.Switch.{Switch}
use Rattle.rv_emit.proofs.Placed.{place_near, place_next}
use Rattle.rv_emit.proofs.OpPlaces.{first_place}
use Rattle.rv_emit.proofs.Images.{place_by_entry}
use Rattle.rv_emit.proofs.Ops.{no_op, op_there}

module _ (settings : Settings) (c : MicroCode) where
  -- the instructions from an operation on
  abbrev pub ops_from : ℕ → List Instr
  ops_from q = ops_code settings c (op_place settings c q) (drop q c.ops)

  pub ops_first : (code : List Instr) → code ++ ops_from 0 ≡ code ++ operations_of settings c
  unfolding operations_of
  ops_first code = ap (λ p. code ++ ops_code settings c p c.ops) (first_place settings c)

  pub ops_end : (code : List Instr) (q : ℕ) → length c.ops ≤ q → code ++ ops_from q ≡ code
  ops_end code q h = ap (λ ops. code ++ ops_code settings c (op_place settings c q) ops) (drop_all q c.ops h) ∙ append-nil code

  next_from : (q : ℕ) (op : Op) → q < length c.ops → op ≡ get_or c.ops q op → ops_from q ≡ instructions settings.sizes (site_of settings c (op_place settings c q) op) op ++ ops_from (q + 1)
  next_from q op lt is =
      let s : suc q ≡ q + 1 = omega arith in
      let at : slice_get c.ops q ≡ Some op = slice_get-get_or c.ops q op lt ∙ ap Some (sym is) in
      ap (λ ops. ops_code settings c (op_place settings c q) ops) (drop_more c.ops q op lt ∙ ap (λ o. o ∷ drop (q + 1) c.ops) (sym is))
      ∙ ap (λ p. instructions settings.sizes (site_of settings c (op_place settings c q) op) op ++ ops_code settings c p (drop (q + 1) c.ops)) (sym (place_next settings c q op at) ∙ ap (op_place settings c) s)

  -- one operation more
  pub ops_more : (old code whole : List Instr) (q : ℕ) (op : Op) → q < length c.ops → op ≡ get_or c.ops q op → code ≡ old ++ instructions settings.sizes (site_of settings c (op_place settings c q) op) op → old ++ ops_from q ≡ whole → code ++ ops_from (q + 1) ≡ whole
  ops_more old code whole q op lt is new so_far =
      ap (λ k. k ++ ops_from (q + 1)) new
      ∙ append_assoc old (instructions settings.sizes (site_of settings c (op_place settings c q) op) op) (ops_from (q + 1))
      ∙ ap (λ k. old ++ k) (sym (next_from q op lt is))
      ∙ so_far

  -- an operation appended where it stands
  pub new_op : (old code : List Instr) (sizes : Sizes) (routines : Routines) (links : Links) (place q : ℕ) (op : Op) → sizes ≡ settings.sizes → routines ≡ routines_at settings.sizes.descr (length c.entries) → links ≡ links_of settings c.static_cells c.formats (places_of settings c) op → place ≡ op_place settings c q → code ≡ old ++ instructions sizes (record { routines = routines; links = links; place = place }) op → code ≡ old ++ instructions settings.sizes (site_of settings c (op_place settings c q) op) op
  new_op old code sizes routines links place q op s r l p h =
      h
      ∙ ap (λ x. old ++ instructions x (record { routines = routines; links = links; place = place }) op) s
      ∙ ap (λ x. old ++ instructions settings.sizes (record { routines = x; links = links; place = place }) op) r
      ∙ ap (λ x. old ++ instructions settings.sizes (record { routines = routines_at settings.sizes.descr (length c.entries); links = x; place = place }) op) l
      ∙ ap (λ x. old ++ instructions settings.sizes (site_of settings c x op) op) p

  -- the place after an operation that was measured
  pub next_place : (ops : List Op) (q statics number n place : ℕ) → ops ≡ c.ops → q < length ops → statics ≡ c.static_cells → number ≡ number_of settings statics (get_or ops q no_op) → n ≡ op_length number (get_or ops q no_op) → place ≡ op_place settings c q → place + 4 * n ≡ op_place settings c (q + 1)
  next_place ops q statics number n place is lt st num len here =
      let s : suc q ≡ q + 1 = omega arith in
      let at = place_next settings c q (get_or ops q no_op) (op_there c ops q is lt) in
      let long : n ≡ length_of settings c.static_cells (get_or ops q no_op) = len ∙ ap (λ m. op_length m (get_or ops q no_op)) (num ∙ ap (λ m. number_of settings m (get_or ops q no_op)) st) in
      let sum : place + 4 * n ≡ op_place settings c (suc q) = omega arith in
      sum ∙ ap (op_place settings c) s

  -- it is near
  pub next_low : CanEmit c settings → (ops : List Op) (q next : ℕ) → ops ≡ c.ops → q < length ops → next ≡ op_place settings c (q + 1) → next < 2 ^ 31
  next_low can ops q next is lt at =
      let within : q < length c.ops = omega (arith, ap length is) in
      omega (arith, place_near settings c can (q + 1) (omega arith))

  -- one word more
  pub word_more : (ops : List Op) (q statics : ℕ) → ops ≡ c.ops → q < length ops → statics ≡ c.static_cells → IsWord settings statics (get_or ops q no_op) → All (IsWord settings c.static_cells) (take q c.ops) → All (IsWord settings c.static_cells) (take (q + 1) c.ops)
  word_more ops q statics is lt st word so_far =
      let within : q < length c.ops = omega (arith, ap length is) in
      let same : get_or ops q no_op ≡ get_or c.ops q no_op = ap (λ os. get_or os q no_op) is in
      All-more (IsWord settings c.static_cells) c.ops q no_op within so_far (subst (IsWord settings c.static_cells) same (subst (λ n. IsWord settings n (get_or ops q no_op)) st word))

  -- all of them
  pub all_words : (q : ℕ) → length c.ops ≤ q → All (IsWord settings c.static_cells) (take q c.ops) → All (IsWord settings c.static_cells) c.ops
  all_words q h so_far = subst (All (IsWord settings c.static_cells)) (take_all q c.ops h) so_far

  -- ---- tables

  abbrev pub table_from : Switch → ℕ → ℕ → List Instr
  table_from which routine k = table_code routine (leads settings c which) (routine + 64 + 8 * k) k (length c.entries - k)

  pub table_first : (code : List Instr) (which : Switch) (routine : ℕ) → routine ≡ routine_of settings.sizes.descr (length c.entries) which → code ++ table_from which routine 0 ≡ code ++ table_of settings c which
  unfolding table_of
  table_first code which routine is =
      let z : routine + 64 + 8 * 0 ≡ routine + 64 = omega arith in
      let n : length c.entries - 0 ≡ length c.entries = omega arith in
      ap (λ p. code ++ table_code routine (leads settings c which) p 0 (length c.entries - 0)) z
      ∙ ap (λ m. code ++ table_code routine (leads settings c which) (routine + 64) 0 m) n
      ∙ ap (λ r. code ++ table_code r (leads settings c which) (r + 64) 0 (length c.entries)) is

  pub table_end : (code : List Instr) (which : Switch) (routine k : ℕ) → length c.entries ≤ k → code ++ table_from which routine k ≡ code
  table_end code which routine k h =
      let n : length c.entries - k ≡ 0 = omega arith in
      ap (λ m. code ++ table_code routine (leads settings c which) (routine + 64 + 8 * k) k m) n ∙ append-nil code

  jump_from : (which : Switch) (routine k : ℕ) → k < length c.entries → table_from which routine k ≡ leap_code 28 0 (routine + 64 + 8 * k) (led routine (leads settings c which k)) ++ table_from which routine (k + 1)
  jump_from which routine k lt =
      let n : length c.entries - k ≡ suc (length c.entries - (k + 1)) = omega arith in
      let p : routine + 64 + 8 * k + 8 ≡ routine + 64 + 8 * (k + 1) = omega arith in
      let s : suc k ≡ k + 1 = omega arith in
      ap (λ m. table_code routine (leads settings c which) (routine + 64 + 8 * k) k m) n
      ∙ ap (λ a. leap_code 28 0 (routine + 64 + 8 * k) (led routine (leads settings c which k)) ++ table_code routine (leads settings c which) a (suc k) (length c.entries - (k + 1))) p
      ∙ ap (λ j. leap_code 28 0 (routine + 64 + 8 * k) (led routine (leads settings c which k)) ++ table_code routine (leads settings c which) (routine + 64 + 8 * (k + 1)) j (length c.entries - (k + 1))) s

  -- one jump more
  pub table_more : (old code whole : List Instr) (which : Switch) (routine k to : ℕ) → k < length c.entries → to ≡ led routine (leads settings c which k) → code ≡ old ++ leap 28 0 (routine + 64 + 8 * k) to → old ++ table_from which routine k ≡ whole → code ++ table_from which routine (k + 1) ≡ whole
  unfolding leap
  table_more old code whole which routine k to lt is new so_far =
      ap (λ x. x ++ table_from which routine (k + 1)) (new ∙ ap (λ t. old ++ leap_code 28 0 (routine + 64 + 8 * k) t) is)
      ∙ append_assoc old (leap_code 28 0 (routine + 64 + 8 * k) (led routine (leads settings c which k))) (table_from which routine (k + 1))
      ∙ ap (λ x. old ++ x) (sym (jump_from which routine k lt))
      ∙ so_far

  -- ---- the places of statements

  pub statement_more : (places : List ℕ) (k place : ℕ) → k < length c.entries → place ≡ place_from settings c (place_of c k) → places ≡ map (place_from settings c) (take k c.entries) → places ++ place ∷ [] ≡ map (place_from settings c) (take (k + 1) c.entries)
  statement_more places k place lt is so_far =
      let at : place_of c k ≡ get_or c.entries k None = place_by_entry c k lt ∙ ap told (slice_get-get_or c.entries k None lt) in
      ap (λ p. places ++ p ∷ []) (is ∙ ap (place_from settings c) at)
      ∙ ap (λ ps. ps ++ place_from settings c (get_or c.entries k None) ∷ []) so_far
      ∙ sym (map_more (place_from settings c) c.entries k None lt)
