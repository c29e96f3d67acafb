-- Where no statement's place is.
use Rattle.std.proofs.Common.{◌≡◌, ◌≢◌, ℕ, suc, ◌<◌, ◌≤◌, length, map, Some, None, false, ◌⊎◌, inl, inr, sym, ap, ◌∙◌, arith}
use Rattle.std.proofs.lemmas.Bool.{cases_lt}
use Rattle.std.proofs.lemmas.Option.{slice_get_within, same_Some}
use Rattle.std.specs.Prelude.{slice_get, IsTrue}
use Rattle.layout_params.specs.Parameters.{Settings}
use Rattle.sil_micro.specs.declared.op.Op.{Op}
use Rattle.sil_micro.specs.declared.op.Op.TheVariants.{Begin}
use Rattle.sil_micro.specs.Codes.{MicroCode}
use Rattle.sil_micro.specs.Pieces.{is_no_begin}
use Rattle.image_file.specs.Image.{Image}
use Rattle.rv_emulate.specs.EmulatorRuns.{entry_at}
use Rattle.rv_straight.specs.InstalledWays.{IsFree}
use Rattle.rv_emit.specs.Code.{first_op, op_place, last_place}
use Rattle.rv_emit.proofs.Entries.{no_entry, entry_is}
use Rattle.rv_emit.proofs.Placed.{place_first, place_more, place_rises}
use Rattle.rv_emit.proofs.Images.{IsEmitted, IsStatement, statement_at}

module _ {image : Image} {settings : Settings} {c : MicroCode} (em : IsEmitted image settings c) where
  abbrev at : ℕ → ℕ
  at q = op_place settings c q

  abbrev last : ℕ
  last = last_place settings c

  begins_within : (k i : ℕ) → slice_get c.ops i ≡ Some (Begin k) → i < length c.ops
  begins_within k i e = slice_get_within c.ops i (Begin k) e

  -- a place where no Begin stands
  no_begin : (q : ℕ) → ((k i : ℕ) → slice_get c.ops i ≡ Some (Begin k) → q ≢ at i) → entry_at image.statements q ≡ None
  no_begin q apart = no_entry q image.statements (λ k p h. let st = statement_at em k p h in λ same. apart k st.op st.begins (same ∙ st.place))

  -- before the operations
  pub free_before : (q : ℕ) → q < first_op settings.sizes.descr (length c.entries) → IsFree image last q
  free_before q low =
      let z = place_first settings c (length c.ops) in
      (no_begin q (λ k i e. let y = place_first settings c i in omega arith), omega arith)

  pub last_apart : entry_at image.statements last ≡ None
  last_apart = no_begin last (λ k i e. let lt = place_rises settings c i (length c.ops) (begins_within k i e) (omega arith) in omega arith)

  -- past them
  pub free_past : (q : ℕ) → last < q → IsFree image last q
  free_past q high = (no_begin q (λ k i e. let lt = place_rises settings c i (length c.ops) (begins_within k i e) (omega arith) in omega arith), omega arith)

  -- behind an operation's first instruction, and before the next operation
  pub free_within : (j q : ℕ) → j < length c.ops → at j < q → q < at (suc j) → IsFree image last q
  free_within j q within low high =
      let end = place_more settings c (suc j) (length c.ops) (omega arith) in
      (no_begin q (λ k i e. apart i (cases_lt j i)), omega arith)
    where
      apart : (i : ℕ) → (j < i) ⊎ (i ≤ j) → q ≢ at i
      apart i (inl lt) = let more = place_more settings c (suc j) i (omega arith) in omega arith
      apart i (inr le) = let more = place_more settings c i j le in omega arith

  -- operations stand apart
  pub places_apart : (i j : ℕ) → i ≤ length c.ops → j ≤ length c.ops → i ≢ j → at i ≢ at j
  places_apart i j a b ne = by_order (cases_lt i j)
    where
      by_order : (i < j) ⊎ (j ≤ i) → at i ≢ at j
      by_order (inl lt) = let rises = place_rises settings c i j lt b in omega arith
      by_order (inr le) = let rises = place_rises settings c j i (omega arith) a in omega arith

  -- at an operation that is no Begin
  pub free_at : (q : ℕ) (op : Op) → slice_get c.ops q ≡ Some op → IsTrue (is_no_begin op) → IsFree image last (at q)
  free_at q op e other =
      let within = slice_get_within c.ops q op e in
      let rises = place_rises settings c q (length c.ops) within (omega arith) in
      (no_begin (at q) (λ k i h. places_apart q i (omega arith) (omega (arith, begins_within k i h)) (differs k i h)), omega arith)
    where
      differs : (k i : ℕ) → slice_get c.ops i ≡ Some (Begin k) → q ≢ i
      differs k i h = λ same.
          let one : op ≡ Begin k = same_Some op (Begin k) (sym e ∙ ap (λ j. slice_get c.ops j) same ∙ h) in
          let no : is_no_begin op ≡ false = ap is_no_begin one in
          absurd cc

  -- at a statement's Begin
  pub statement_place : (k p : ℕ) → slice_get (map (λ e. e.place) image.statements) k ≡ Some p → entry_at image.statements p ≡ Some k
  statement_place k p e =
      let st = statement_at em k p e in
      let here = begins_within k st.op st.begins in
      entry_is k p image.statements e (λ i other lt h. apart i other lt (statement_at em i other h))
    where
      apart : (i other : ℕ) → i < k → IsStatement settings c i other → p ≢ other
      apart i other lt so =
          let st = statement_at em k p e in
          let rise = em.can.whole.rise i k so.op st.op lt so.entry st.entry in
          let rises = place_rises settings c so.op st.op rise (omega (arith, begins_within k st.op st.begins)) in
          omega (arith, so.place, st.place)
