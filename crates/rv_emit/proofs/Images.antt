-- An image of emitted words, and the places of its statements.
use Rattle.std.proofs.Common.{◌≡◌, ℕ, ◌<◌, length, map, Option, Some, None, Bool, true, false, cond, ◌==◌, refl, sym, ap, ◌∙◌, arith}
use Rattle.std.proofs.lemmas.List.{length-map}
use Rattle.std.proofs.lemmas.Option.{slice_get-map, slice_get_within, same_Some}
use Rattle.std.specs.Prelude.{All, slice_get}
use Rattle.std.specs.Option.{option_map}
use Rattle.std.specs.List.{flat_map}
use Rattle.layout_params.specs.Parameters.{Settings}
use Rattle.sil_micro.specs.declared.op.Op.TheVariants.{Begin}
use Rattle.sil_micro.specs.Codes.{MicroCode, told, entry_of, place_of}
use Rattle.image_file.specs.Image.{Image}
use Rattle.rv_emit.specs.Code.{op_place, place_from}
use Rattle.rv_emit.specs.Emits.{CanEmit, HasNumber, words_of, statement_places}

-- an image with the words and the places of a code, and the texts of its formats
pub record IsEmitted (image : Image) (settings : Settings) (c : MicroCode) : Type 0 where
  pub can : CanEmit c settings
  pub numbers : All HasNumber c.ops
  pub settings_are : image.settings ≡ settings
  pub words : image.words ≡ words_of settings c
  pub constants : image.constants ≡ flat_map (λ text. text) c.formats
  pub places : map (λ e. e.place) image.statements ≡ statement_places settings c

-- what is told is there
told_some : {A : Type 0} (o : Option (Option A)) (x : A) → told o ≡ Some x → o ≡ Some (Some x)
told_some None x e = absurd cc
told_some (Some o) x e = ap Some e

pub entry_within : (c : MicroCode) (k q : ℕ) → entry_of c k ≡ Some q → k < length c.entries
entry_within c k q e = slice_get_within c.entries k (Some q) (told_some (slice_get c.entries k) q e)

other_way : {A : Type 0} (b : Bool) (x y : A) → b ≡ false → cond b x y ≡ y
other_way true x y e = absurd cc
other_way false x y e = refl

-- the place of a statement that there is, by its entry
pub place_by_entry : (c : MicroCode) (k : ℕ) → k < length c.entries → place_of c k ≡ entry_of c k
place_by_entry c k lt = other_way (k == length c.entries) (Some (length c.ops)) (entry_of c k) (grind arith)

-- a statement, where its Begin stands, and its place
pub record IsStatement (settings : Settings) (c : MicroCode) (k p : ℕ) : Type 0 where
  pub op : ℕ
  pub within : k < length c.entries
  pub entry : entry_of c k ≡ Some op
  pub begins : slice_get c.ops op ≡ Some (Begin k)
  pub place : p ≡ op_place settings c op

module _ {image : Image} {settings : Settings} {c : MicroCode} (em : IsEmitted image settings c) where
  pub count : length image.statements ≡ length c.entries
  count = sym (length-map image.statements (λ e. e.place)) ∙ ap length em.places ∙ length-map c.entries (place_from settings c)

  -- the place of a statement by its number
  pub place_at : (k : ℕ) → slice_get (map (λ e. e.place) image.statements) k ≡ option_map (place_from settings c) (slice_get c.entries k)
  place_at k = ap (λ ps. slice_get ps k) em.places ∙ slice_get-map (place_from settings c) c.entries k

  pub statement_there : (k : ℕ) → k < length c.entries → (p : ℕ) × (slice_get (map (λ e. e.place) image.statements) k ≡ Some p) × IsStatement settings c k p
  statement_there k lt =
      let there = em.can.whole.entries k lt in
      let known = told_some (slice_get c.entries k) there.0 there.1 in
      (op_place settings c there.0, place_at k ∙ ap (λ o. option_map (place_from settings c) o) known, record { op = there.0; within = lt; entry = there.1; begins = there.2; place = refl })

  pub statement_at : (k p : ℕ) → slice_get (map (λ e. e.place) image.statements) k ≡ Some p → IsStatement settings c k p
  statement_at k p e =
      let within = slice_get_within (map (λ e. e.place) image.statements) k p e in
      let lt : k < length c.entries = omega (arith, within, length-map image.statements (λ e. e.place), count) in
      let there = statement_there k lt in
      let same = same_Some p there.0 (sym e ∙ there.1) in
      record { op = there.2.op; within = lt; entry = there.2.entry; begins = there.2.begins; place = same ∙ there.2.place }
