-- One statement more.
use Rattle.std.proofs.Common.{◌≡◌, ◌≢◌, ℕ, ◌+◌, ◌-◌, ◌*◌, ◌<◌, ◌≤◌, ◌==◌, List, length, Option, Some, None, Bool, true, false, refl, sym, ap, ◌∙◌, subst, arith, length-append}
use Rattle.std.proofs.Math.ListN.{length-set}
use Rattle.std.proofs.lemmas.Bool.Decides.{nat_tests}
use Rattle.std.proofs.lemmas.Option.{slice_get_within, same_Some}
use Rattle.std.specs.Prelude.{slice_get, slice_set, nat_lt, nat_eq, if◌then◌else◌}
use Rattle.sil_macros.specs.declared.names.Macro.TheVariants.{Rcall}
use Rattle.sil_model.specs.declared.program.Arg.{Arg}
use Rattle.sil_model.specs.declared.program.Program.{Program}
use Rattle.sil_model.specs.declared.program.Statement.{Statement}
use Rattle.flow_clauses.specs.CallClauses.{is_rcall, rcall}
use Rattle.sil_runs.specs.Costs.{visits}
use Rattle.sil_model.specs.Prints.{writes_records, IsSilent}
use Rattle.sil_runs.specs.Table.{clause}
use Rattle.sil_model.proofs.Keeps.{all_at}
use Rattle.sil_model.proofs.Places.{set_here, set_there}
use Rattle.sil_micro.specs.declared.op.Op.{Op}
use Rattle.sil_micro.specs.declared.op.Op.TheVariants.{Begin}
use Rattle.sil_micro.specs.Codes.{MicroCode, appended, begun, entry_of, return_of, told, op_leads}
use Rattle.sil_micro.specs.Expands.{Does, IsPiece}
use Rattle.sil_micro.specs.Forms.{all_ops}
use Rattle.sil_micro.specs.Pieces.{placed, placed_op, fits_part, is_quiet, names_within, weights}
use Rattle.sil_micro.proofs.Making.{by_test}
use Rattle.sil_micro.proofs.Parts.{all_alike, all_append, length_placed, weights_append, weights_placed}
use Rattle.exp_calls.specs.CallHalves.{ExpandsCall, ExpandsReturn}
use Rattle.exp_calls.specs.Group.{is_return}
use Rattle.exp_units.specs.InFormats.{DoesIn, ExpandsIn}
use Rattle.macro_expand.specs.Expanded.{DoesStep, HasReturns, IsExpandedTo}
use Rattle.macro_expand.proofs.Growing.{get_left, get_front, get_right, get_placed, begin_placed, first_begin, all_longer, part_leads, names_placed, quiet_placed, quiet_piece, place_so_far, Stands, SoFar}
use Rattle.macro_expand.proofs.Halves.{clause_of_call, rcall_alone, return_alone}

by_equal : {P : Type 0} (k i : ℕ) → (k ≡ i → P) → (k ≢ i → P) → P
by_equal k i same other = by_test (nat_eq k i) (λ yes. same (grind (arith, nat_tests, yes))) (λ no. other (λ e. let yes : nat_eq k i ≡ true = grind (arith, nat_tests, e) in absurd (cc)))

pub place_here : (c : MicroCode) (i k : ℕ) → k ≡ i → place_so_far c i k ≡ Some (length c.ops)
place_here c i k e = let yes : (k == i) ≡ true = grind (arith, nat_tests, e) in ap (λ b. if b then Some (length c.ops) else entry_of c k) yes

pub place_there : (c : MicroCode) (i k : ℕ) → k ≢ i → place_so_far c i k ≡ entry_of c k
place_there c i k ne = by_test (k == i) (λ yes. let e : k ≡ i = grind (arith, nat_tests, yes) in absurd (ne e)) (λ no. ap (λ b. if b then Some (length c.ops) else entry_of c k) no)

-- the places of the return parts, where the next piece has one at a place of its own or none
abbrev pub marked : Option ℕ → ℕ → MicroCode → List (Option ℕ)
marked None i c = c.returns
marked (Some part) i c = slice_set c.returns i (Some (length c.ops + part))

abbrev pub marked_at : Option ℕ → MicroCode → Option ℕ
marked_at None c = None
marked_at (Some part) c = Some (length c.ops + part)

abbrev pub IsPart : Option ℕ → List Op → Type 0
IsPart None piece = Unit {0}
IsPart (Some part) piece = part ≤ length piece

module _ (program : Program) (i : ℕ) (c : MicroCode) (before : SoFar program i c) (here : i < length program.statements) (piece : List Op) (back : Option ℕ) (is_part : IsPart back piece) (prints : Bool) (is_piece : IsPiece i (length c.entries) (length c.formats) prints piece) where
  abbrev pub next : MicroCode
  next = record (appended (begun i c) piece) { returns = marked back i c }

  abbrev more : List Op
  more = placed (length c.ops) piece

  entry_here : entry_of next i ≡ Some (length c.ops)
  entry_here = ap (λ o. told o) (set_here c.entries i (Some (length c.ops)) (omega (arith, before.statements, here)))

  entry_there : (k : ℕ) → k ≢ i → entry_of next k ≡ entry_of c k
  entry_there k ne = ap (λ o. told o) (set_there c.entries i k (Some (length c.ops)) ne)

  count : length next.ops ≡ length c.ops + length piece
  count = length-append c.ops more ∙ ap (λ n. length c.ops + n) (length_placed (length c.ops) piece)

  same_count : length next.entries ≡ length c.entries
  same_count = length-set c.entries i (Some (length c.ops))

  -- ---- return parts

  return_here : return_of next i ≡ marked_at back c
  return_here = by_back back refl where
    by_back : (b : Option ℕ) → back ≡ b → return_of next i ≡ marked_at back c
    by_back None e = subst (λ o. told (slice_get (marked o i c) i) ≡ marked_at o c) (sym e) (before.unreturned i (omega arith))
    by_back (Some part) e = subst (λ o. told (slice_get (marked o i c) i) ≡ marked_at o c) (sym e) (ap (λ o. told o) (set_here c.returns i (Some (length c.ops + part)) (omega (arith, before.count, before.statements, here))))

  return_there : (k : ℕ) → k ≢ i → return_of next k ≡ return_of c k
  return_there k ne = by_back back refl where
    by_back : (b : Option ℕ) → back ≡ b → return_of next k ≡ return_of c k
    by_back None e = ap (λ o. told (slice_get (marked o i c) k)) e
    by_back (Some part) e = ap (λ o. told (slice_get (marked o i c) k)) e ∙ ap (λ o. told o) (set_there c.returns i k (Some (length c.ops + part)) ne)

  still_count : length next.returns ≡ length next.entries
  still_count = by_back back refl where
    by_back : (b : Option ℕ) → back ≡ b → length next.returns ≡ length next.entries
    by_back None e = ap (λ o. length (marked o i c)) e ∙ before.count ∙ sym same_count
    by_back (Some part) e = ap (λ o. length (marked o i c)) e ∙ length-set c.returns i (Some (length c.ops + part)) ∙ before.count ∙ sym same_count

  still_unreturned : (k : ℕ) → i + 1 ≤ k → return_of next k ≡ None
  still_unreturned k le = return_there k (λ e. omega (arith, le, e)) ∙ before.unreturned k (omega (arith, le))

  return_within : (b : Option ℕ) (place : ℕ) → IsPart b piece → marked_at b c ≡ Some place → place ≤ length c.ops + length piece
  return_within None place within e = absurd (cc)
  return_within (Some part) place within e = let same : length c.ops + part ≡ place = same_Some (length c.ops + part) place e in omega (arith, same, within)

  still_returns : (k place : ℕ) → return_of next k ≡ Some place → place ≤ length next.ops
  still_returns k place e = by_equal k i
      (λ same. omega (arith, return_within back place is_part (sym return_here ∙ ap (λ j. return_of next j) (sym same) ∙ e), count))
      (λ ne. omega (arith, before.returns k place (sym (return_there k ne) ∙ e), count))

  returns_still : (b : Bool) (k base : ℕ) (ops : List Op) (args : List Arg) → k ≢ i → HasReturns b c k base ops args → HasReturns b next k base ops args
  returns_still false k base ops args ne x = return_there k ne ∙ x
  returns_still true k base ops args ne x = record { part = x.part; place = return_there k ne ∙ x.place; does = x.does }

  -- ---- entries

  still_set : (k : ℕ) → k < i + 1 → (place : ℕ) × (entry_of next k ≡ Some place)
  still_set k lt = by_equal k i (λ same. (length c.ops, ap (λ j. entry_of next j) same ∙ entry_here)) (λ ne. let was = before.set k (omega (arith, lt, ne)) in (was.0, entry_there k ne ∙ was.1))

  still_unset : (k : ℕ) → i + 1 ≤ k → entry_of next k ≡ None
  still_unset k le = entry_there k (λ e. omega (arith, le, e)) ∙ before.unset k (omega (arith, le))

  begun_here : slice_get next.ops (length c.ops) ≡ Some (Begin i)
  begun_here = let e : length c.ops ≡ length c.ops + 0 = omega arith in ap (λ j. slice_get next.ops j) e ∙ get_right c.ops more 0 ∙ get_placed (length c.ops) piece 0 (Begin i) is_piece.begins

  still_begun : (k place : ℕ) → entry_of next k ≡ Some place → slice_get next.ops place ≡ Some (Begin k)
  still_begun k place e = by_equal k i
      (λ same.
      let at : length c.ops ≡ place = same_Some (length c.ops) place (sym entry_here ∙ ap (λ j. entry_of next j) (sym same) ∙ e) in
      ap (λ j. slice_get next.ops j) (sym at) ∙ begun_here ∙ ap (λ j. Some (Begin j)) (sym same))
      (λ ne. get_left c.ops more place (Begin k) (before.begun k place (sym (entry_there k ne) ∙ e)))

  place_below : (k place : ℕ) → entry_of c k ≡ Some place → place < length c.ops
  place_below k place e = slice_get_within c.ops place (Begin k) (before.begun k place e)

  none_after : (k place : ℕ) → i < k → entry_of next k ≡ Some place → ⊥
  none_after k place lt e = let none = still_unset k (omega (arith, lt)) in let both : None ≡ Some place = sym none ∙ e in absurd (cc)

  still_rise : (j k place other : ℕ) → j < k → entry_of next j ≡ Some place → entry_of next k ≡ Some other → place < other
  still_rise j k place other lt ej ek = by_equal k i
      (λ same.
      let at : length c.ops ≡ other = same_Some (length c.ops) other (sym entry_here ∙ ap (λ q. entry_of next q) (sym same) ∙ ek) in
      omega (arith, at, place_below j place (sym (entry_there j (λ e. omega (arith, e, same, lt))) ∙ ej)))
      (λ ne. by_equal j i (λ same. absurd (none_after k other (omega (arith, same, lt)) ek))
      (λ nj. before.rise j k place other lt (sym (entry_there j nj) ∙ ej) (sym (entry_there k ne) ∙ ek)))

  begins_before : (place k : ℕ) → place < length c.ops → slice_get next.ops place ≡ Some (Begin k) → entry_of next k ≡ Some place
  begins_before place k lt e =
      let was = before.begins place k (sym (get_front c.ops more place lt) ∙ e) in
      entry_there k (λ same. let none = before.unset k (omega (arith, same)) in let both : None ≡ Some place = sym none ∙ was in absurd (cc)) ∙ was

  begins_after : (place o k : ℕ) → place ≡ length c.ops + o → slice_get next.ops place ≡ Some (Begin k) → entry_of next k ≡ Some place
  begins_after place o k at e =
      let there : slice_get more o ≡ Some (Begin k) = sym (get_right c.ops more o) ∙ ap (λ j. slice_get next.ops j) (sym at) ∙ e in
      let first = first_begin piece o i k is_piece.once is_piece.begins (begin_placed (length c.ops) piece o k there) in
      let same : length c.ops ≡ place = omega (arith, at, first.0) in
      ap (λ j. entry_of next j) first.1 ∙ entry_here ∙ ap (λ j. Some j) same

  still_begins : (place k : ℕ) → slice_get next.ops place ≡ Some (Begin k) → entry_of next k ≡ Some place
  still_begins place k e = by_test (nat_lt place (length c.ops)) (λ yes. begins_before place k (grind (arith, nat_tests, yes)) e)
      (λ no. let le : length c.ops ≤ place = grind (arith, nat_tests, no) in begins_after place (place - length c.ops) k (omega (arith, le)) e)

  still_jumps : all_ops (op_leads (length next.ops)) next.ops ≡ true
  unfolding placed
  still_jumps = ap (λ n. all_ops (op_leads n) next.ops) count
      ∙ all_append (op_leads (length c.ops + length piece)) c.ops more (all_longer (length c.ops) (length c.ops + length piece) (omega arith) c.ops before.jumps)
      (all_alike (fits_part (length piece)) (op_leads (length c.ops + length piece)) (placed_op (length c.ops)) (part_leads (length c.ops) (length piece)) piece is_piece.part)

  still_names : all_ops (names_within (length next.entries) (length next.formats)) next.ops ≡ true
  unfolding placed
  still_names =
      let test = names_within (length c.entries) (length c.formats) in
      ap (λ n. all_ops (names_within n (length c.formats)) next.ops) same_count
      ∙ all_append test c.ops more before.names (all_alike test test (placed_op (length c.ops)) (names_placed (length c.entries) (length c.formats) (length c.ops)) piece is_piece.names)

  still_light : weights next.ops ≤ 12000 * (i + 1)
  still_light = omega (arith, weights_append c.ops more, weights_placed (length c.ops) piece, before.light, is_piece.light)

  still_quiet : prints ≡ false → IsSilent program → all_ops is_quiet next.ops ≡ true
  unfolding placed
  still_quiet silence silent = all_append is_quiet c.ops more (before.quiet silent) (all_alike is_quiet is_quiet (placed_op (length c.ops)) (quiet_placed (length c.ops)) piece (quiet_piece prints piece silence is_piece.quiet))

  same_piece : (k : ℕ) (p : Bool) (ops : List Op) → IsPiece k (length c.entries) (length c.formats) p ops → IsPiece k (length next.entries) (length next.formats) p ops
  same_piece k p ops is = subst (λ n. IsPiece k n (length c.formats) p ops) (sym same_count) is

  follows_still : (k e : ℕ) → place_so_far c i (k + 1) ≡ Some e → k ≢ i → place_so_far next (i + 1) (k + 1) ≡ Some e
  follows_still k e was ne =
      let other : k + 1 ≢ i + 1 = λ same. ne (omega (arith, same)) in
      place_there next (i + 1) (k + 1) other
      ∙ by_equal (k + 1) i (λ same. ap (λ j. entry_of next j) same ∙ entry_here ∙ sym (place_here c i (k + 1) same) ∙ was) (λ differs. entry_there (k + 1) differs ∙ sym (place_there c i (k + 1) differs) ∙ was)

  earlier : (k : ℕ) (statement : Statement) → k ≢ i → Stands c program i k statement → Stands next program (i + 1) k statement
  earlier k statement ne x = record {
    base = x.base;
    piece = x.piece;
    entry = entry_there k ne ∙ x.entry;
    each = λ j op e. get_left c.ops more (x.base + j) (placed_op x.base op) (x.each j op e);
    follows = follows_still k (x.base + length x.piece) x.follows ne;
    is_piece = same_piece k (writes_records statement.name) x.piece x.is_piece;
    does = x.does;
    returns = returns_still (is_rcall statement.name) k x.base x.piece statement.args ne x.returns;
  }

  -- the piece does what the statement's is to do
  pub record IsFor (statement : Statement) : Type 0 where
    pub says : prints ≡ writes_records statement.name
    pub does : DoesStep (is_return statement.name) c.formats i piece program.specials statement.name statement.args
    pub returns : return_of next i ≡ marked_at back c → HasReturns (is_rcall statement.name) next i (length c.ops) piece statement.args

  latest : (statement : Statement) → IsFor statement → Stands next program (i + 1) i statement
  latest statement x = record {
    base = length c.ops;
    piece = piece;
    entry = entry_here;
    each = λ j op e. get_right c.ops more j ∙ get_placed (length c.ops) piece j op e;
    follows = place_here next (i + 1) (i + 1) refl ∙ ap (λ n. Some n) count;
    is_piece = subst (λ p. IsPiece i (length next.entries) (length next.formats) p piece) x.says (same_piece i prints piece is_piece);
    does = x.does;
    returns = x.returns return_here;
  }

  pub one_more : (statement : Statement) → slice_get program.statements i ≡ Some statement → IsFor statement → SoFar program (i + 1) next
  one_more statement is x = record {
    count = still_count;
    statements = same_count ∙ before.statements;
    static_cells = before.static_cells;
    formats = before.formats;
    set = still_set;
    unset = still_unset;
    begun = still_begun;
    rise = still_rise;
    begins = still_begins;
    unreturned = still_unreturned;
    returns = still_returns;
    jumps = still_jumps;
    names = still_names;
    quiet = λ silent. still_quiet (x.says ∙ all_at (λ s. writes_records s.name ≡ false) program.statements i statement silent is) silent;
    light = still_light;
    each = λ k s lt e. by_equal k i
        (λ same.
        let at : slice_get program.statements i ≡ Some s = ap (λ j. slice_get program.statements j) (sym same) ∙ e in
        let this : statement ≡ s = same_Some statement s (sym is ∙ at) in
        subst (λ j. Stands next program (i + 1) j s) (sym same) (subst (λ t. Stands next program (i + 1) i t) this (latest statement x)))
        (λ ne. earlier k s ne (before.each k s (omega (arith, lt, ne)) e));
  }

-- a statement's expansion is one statement more
module _ (program : Program) (i : ℕ) (old new : MicroCode) (statement : Statement) (before : SoFar program i old) (here : i < length program.statements) (is : slice_get program.statements i ≡ Some statement) where
  by_itself : is_rcall statement.name ≡ false → is_return statement.name ≡ false → ExpandsIn old new i program.specials statement.args (clause statement.name) (visits statement.name) (writes_records statement.name) → SoFar program (i + 1) new
  by_itself call return x =
      subst (λ c. SoFar program (i + 1) c) (sym x.stands)
      (one_more program i old before here x.piece None tt (writes_records statement.name) x.is_piece statement is (record {
        says = refl;
        does = subst (λ b. DoesStep b old.formats i x.piece program.specials statement.name statement.args) (sym return) x.does;
        returns = λ none. subst (λ b. HasReturns b (appended (begun i old) x.piece) i (length old.ops) x.piece statement.args) (sym call) none;
      }))

  by_return : is_rcall statement.name ≡ false → is_return statement.name ≡ true → ExpandsReturn old new i program.specials statement.args → SoFar program (i + 1) new
  by_return call return x =
      subst (λ c. SoFar program (i + 1) c) (sym x.stands)
      (one_more program i old before here x.piece None tt false x.is_piece statement is (record {
        says = sym (ap (λ name. writes_records name) (return_alone statement.name return));
        does = subst (λ b. DoesStep b old.formats i x.piece program.specials statement.name statement.args) (sym return) x.does;
        returns = λ none. subst (λ b. HasReturns b (appended (begun i old) x.piece) i (length old.ops) x.piece statement.args) (sym call) none;
      }))

  call_does : (piece : List Op) → statement.name ≡ Rcall → Does i piece program.specials statement.args rcall (visits Rcall) → DoesStep (is_return statement.name) old.formats i piece program.specials statement.name statement.args
  call_does piece e does =
      subst (λ name. DoesStep (is_return name) old.formats i piece program.specials name statement.args) (sym e)
      (subst (λ f. DoesIn old.formats i piece program.specials statement.args f (visits Rcall)) (sym clause_of_call) (λ g program parameters u h same. does g program parameters u h))

  by_call : is_rcall statement.name ≡ true → ExpandsCall old new i program.specials statement.args → SoFar program (i + 1) new
  by_call call x =
      let name = rcall_alone statement.name call in
      subst (λ c. SoFar program (i + 1) c) (sym x.stands)
      (one_more program i old before here x.piece (Some x.part) x.answers.within false x.is_piece statement is (record {
        says = sym (ap (λ n. writes_records n) name);
        does = call_does x.piece name x.does;
        returns = λ at. subst (λ b. HasReturns b (record (appended (begun i old) x.piece) { returns = marked (Some x.part) i old }) i (length old.ops) x.piece statement.args) (sym call) (record { part = x.part; place = at; does = x.answers });
      }))

  pub step : IsExpandedTo (is_rcall statement.name) (is_return statement.name) old new i program.specials statement.name statement.args → SoFar program (i + 1) new
  step x = by_test (is_rcall statement.name)
      (λ call. by_call call (subst (λ b. IsExpandedTo b (is_return statement.name) old new i program.specials statement.name statement.args) call x))
      (λ call. let y = subst (λ b. IsExpandedTo b (is_return statement.name) old new i program.specials statement.name statement.args) call x in
      by_test (is_return statement.name)
      (λ return. by_return call return (subst (λ b. IsExpandedTo false b old new i program.specials statement.name statement.args) return y))
      (λ return. by_itself call return (subst (λ b. IsExpandedTo false b old new i program.specials statement.name statement.args) return y)))
