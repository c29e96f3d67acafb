-- The run does what an operation of the code does, where the operation stands.
use Rattle.std.proofs.Common.{◌≡◌, ℕ, suc, ◌+◌, ◌*◌, ◌/◌, ◌^◌, ◌<◌, ◌≤◌, List, [], ◌∷◌, length, take, length-append, Some, refl, sym, ap, subst, ◌∙◌, arith}
use Rattle.std.proofs.lemmas.Option.{slice_get_within}
use Rattle.std.proofs.lemmas.List.Sums.{sum_by-cons}
use Rattle.std.specs.Prelude.{not, slice_get, sum_by}
use Rattle.std.specs.List.{flat_map}
use Rattle.sil_base.specs.declared.limits.TheConstants.{MAX_STEPS}
use Rattle.sil_base.specs.declared.places.TheConstants.{FIRST_WORD}
use Rattle.layout_params.specs.Parameters.{Settings}
use Rattle.sil_micro.specs.declared.op.Op.{Op}
use Rattle.sil_micro.specs.declared.op.Op.TheVariants.{Const, Begin}
use Rattle.sil_micro.specs.Codes.{MicroCode, setting_of}
use Rattle.sil_micro.specs.Forms.{is_op}
use Rattle.sil_micro.specs.Operations.{act, fixed, weight}
use Rattle.sil_micro.specs.Pieces.{is_quiet}
use Rattle.sil_micro.specs.MicroStates.{Setting, Micro}
use Rattle.image_file.specs.Image.{Image}
use Rattle.rv_emulate.specs.EmulatorStates.{State}
use Rattle.rv_straight.specs.Code.{AreInstrs, StandAt, IsNext}
use Rattle.rv_operations.specs.declared.places.Site.{Site}
use Rattle.rv_operations.specs.Does.{Does}
use Rattle.rv_operations.specs.Ops.{site_of, code_of, number_of, length_of, IsKnown, NamesNear, Supports}
use Rattle.rv_operations.specs.CodePlaces.{Places}
use Rattle.rv_operations.specs.OpSites.{CanStand, IsBegun}
use Rattle.rv_operations.specs.StandsFor.{StandsFor}
use Rattle.rv_operations.proofs.AllOps.{ops}
use Rattle.rv_operations.proofs.Doing.{unsigned_small}
use Rattle.rv_operations.proofs.FixedFits.{fixed_fits}
use Rattle.rv_operations.proofs.Fixing.{fixed_is}
use Rattle.rv_operations.proofs.OpRules.{rules, lengths_in}
use Rattle.rv_operations.proofs.OpWords.{words}
use Rattle.rv_emit.specs.Code.{first_op, op_place, last_place, places_of, whole_code}
use Rattle.rv_emit.proofs.Parted.{IsPart}
use Rattle.rv_emit.proofs.Placed.{place_next, place_more, place_even, place_near, last_near}
use Rattle.rv_emit.proofs.WholeParts.{ops_here}
use Rattle.rv_emit.proofs.OpParts.{code_at, op_part}
use Rattle.rv_emit.proofs.Images.{IsEmitted, count, entry_within}
use Rattle.rv_emit.proofs.Free.{free_within}
use Rattle.rv_emit.proofs.Standing.{part_stands}
use Rattle.rv_emit.proofs.Linked.{linked}
use Rattle.rv_emit.proofs.Targets.{op_keeps, names_near}
use Rattle.rv_emit.proofs.Routines.{has_routines}

joined_long : (texts : List (List ℕ)) → length (flat_map (λ text. text) texts) ≡ sum_by length texts
joined_long [] = refl
joined_long (t ∷ texts) = omega (arith, length-append t (flat_map (λ text. text) texts), joined_long texts, sum_by-cons (length {A = ℕ}) t texts)

-- where an operation's instructions are among all
module _ (settings : Settings) (c : MicroCode) where
  abbrev index : ℕ → ℕ
  index q = 217 + 2 * (settings.sizes.descr / 8) + 4 * length c.entries + sum_by (length_of settings c.static_cells) (take q c.ops)

  op_here : (q : ℕ) (op : Op) → slice_get c.ops q ≡ Some op → IsPart (whole_code settings c) (index q) (code_at settings c (op_place settings c q) op)
  unfolding op_place
  op_here q op e = op_part settings c (whole_code settings c) (217 + 2 * (settings.sizes.descr / 8) + 4 * length c.entries) (first_op settings.sizes.descr (length c.entries)) c.ops q op e (ops_here settings c)

  place_is : (q : ℕ) → FIRST_WORD + 4 * index q ≡ op_place settings c q
  unfolding op_place
  place_is q = omega arith

module _ {image : Image} {settings : Settings} {c : MicroCode} (em : IsEmitted image settings c) (bound : ℕ) (steps : bound ≤ MAX_STEPS) where
  abbrev g : Setting
  g = setting_of c settings bound

  abbrev p : Places
  p = places_of settings c

  supports : Supports image (last_place settings c) g p
  supports = record {
    routines = has_routines em bound;
    statements = count em;
    few = em.can.whole.few;
    texts = em.constants;
    short = omega (arith, ap length em.constants, joined_long c.formats, em.can.format_bytes);
    steps = steps;
  }

  module _ (q : ℕ) (op : Op) (u : Micro) (s : State) (e : slice_get c.ops q ≡ Some op) (st : StandsFor g u s) (pc : s.pc ≡ op_place settings c q) where
    within : q < length c.ops
    within = slice_get_within c.ops q op e

    names : NamesNear g p op
    names = names_near em bound q op e

    number_small : (op : Op) → NamesNear g p op → number_of settings c.static_cells op < 2 ^ 64
    number_small (Const to value) near = subst (λ n. n < 2 ^ 64) (fixed_is g u s value st) (unsigned_small (fixed g u.state value) (fixed_fits g p u s to value em.can.legal st near))
    number_small _ near = omega arith

    begun : (op : Op) → slice_get c.ops q ≡ Some op → IsBegun op
    begun (Begin k) h = let lt = entry_within c k q (em.can.whole.begins q k h) in omega (arith, em.can.whole.few)
    begun _ h = tt

    site : Site
    site = site_of g p (op_place settings c q) op

    can_stand : CanStand (site_of g p (op_place settings c q) op) op
    can_stand =
        let near = place_near settings c em.can q (omega (arith, within)) in
        let l = linked settings c.static_cells c.formats p em.can.format_lengths em.can.format_bytes op in
        record { place = omega arith; text = l.text; text_len = l.text_len; number = begun op e }

    instrs : AreInstrs (code_of g p (op_place settings c q) op)
    instrs =
        let l = linked settings c.static_cells c.formats p em.can.format_lengths em.can.format_bytes op in
        words settings.sizes (site_of g p (op_place settings c q) op) op em.can.legal.layout (omega (arith, l.number_is, number_small op names)) can_stand (rules op (op_keeps is_op c.ops q op em.can.code.rules e))

    here : StandAt image.words s.pc (code_of g p s.pc op)
    here = subst (λ at. StandAt image.words at (code_of g p at op)) (sym pc) (part_stands em (index settings c q) (op_place settings c q) (code_of g p (op_place settings c q) op) (op_here settings c q op e) instrs (place_is settings c q))

    long : s.pc + 4 * length (code_of g p s.pc op) ≡ op_place settings c (suc q)
    long = omega (arith, pc, lengths_in g p s.pc op, place_next settings c q op e)

    is_next : IsNext image (last_place settings c) s (code_of g p s.pc op)
    is_next =
        let more = place_more settings c (suc q) (length c.ops) (omega (arith, within)) in
        let near = last_near settings c em.can in
        record {
          stands = here;
          free = λ a low high. free_within em q a within (omega (arith, pc)) (omega (arith, long));
          low = omega (arith, long);
        }

    pub does : IsKnown g op u → Does image (last_place settings c) g p (not (is_quiet op)) (weight op) (op_place settings c (suc q)) s (act g op u)
    does known =
        let even = place_even settings c q in
        let way = ops image (last_place settings c) g p op u s supports (op_keeps is_op c.ops q op em.can.code.rules e) names (record { settings = em.can.legal; stands = st; code = is_next; even = omega (arith, pc) }) known in
        subst (λ at. Does image (last_place settings c) g p (not (is_quiet op)) (weight op) at s (act g op u)) (ap (λ k. s.pc + 4 * k) (sym (lengths_in g p s.pc op)) ∙ long) way
