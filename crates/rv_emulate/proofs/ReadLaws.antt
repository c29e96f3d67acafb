-- Reads into memory, and the values of a print.
use Rattle.std.proofs.Common.{◌≡◌, ℕ, zero, suc, ◌+◌, ◌-◌, ◌*◌, ◌%◌, ◌<◌, ◌≤◌, List, [], ◌∷◌, ◌++◌, length, take, drop, map, get_or, take_all, Bool, true, false, Option, Some, None, pos, refl, sym, ap, subst, ◌∙◌, arith, append_assoc, length-append, length-drop, if◌then◌else◌}
use Rattle.std.specs.Int.{w64, cast_signed}
use Rattle.std.proofs.lemmas.List.{drop-drop, get_or-map, length-map, length-take, take-append-drop, take_more}
use borrow.Rule.Slice.PartMut.{mid_of, put_mid}
use Rattle.sil_base.specs.Bytes.{number, piece, with_piece, AreBytes}
use Rattle.sil_base.proofs.Numbers.{AreBytes-piece, length-piece, piece-with_piece}
use Rattle.sil_base.specs.declared.places.TheConstants.{FIRST_CELL, FIRST_CONSTANT, FIRST_KIND, FIRST_SCRATCH, FIRST_TABLE}
use Rattle.sil_format.specs.declared.value.Value.{Value}
use Rattle.sil_format.specs.declared.value.Value.TheVariants.{Char, Number}
use Rattle.unit_io.specs.Numbered.{unit_at}
use Rattle.unit_io.specs.Tapes.{TapeState, Tapes, next_fails, next_record}
use Rattle.unit_io.specs.Answers.{overlaid, read_answer, read_bytes}
use Rattle.unit_io.specs.Calls.{OnUnit, Reads, units_read}
use Rattle.unit_io.specs.declared.answers.UnitsRead.{UnitsRead}
use Rattle.rv_emulate.specs.EmulatorMemory.{Memory, bytes_at, can_store, holds, or_else, or_nothing, with_bytes}
use Rattle.rv_emulate.specs.Ecalls.{bytes_read, words_in}
use Rattle.rv_emulate.specs.UnitAnswers.{ReadsInto}

-- ---- what is said of a unit

pub on_unit : {A B A' B' : Type 0} {C C' : TapeState → Type 0} (o : Option (Option TapeState)) → (A → A') → (B → B') → ((t : TapeState) → C t → C' t) → OnUnit o A B C → OnUnit o A' B' C'
on_unit None f g h x = f x
on_unit (Some None) f g h x = g x
on_unit (Some (Some t)) f g h x = h t x

-- what a read leaves of something that the bytes are a part of
pub reads_to : {X : Type 0} (f : List ℕ → X) (k n : ℕ) (before after : Tapes) (answer : UnitsRead) (old new : List ℕ) (x y : X) (left : TapeState → X) →
    length old ≡ n → f old ≡ x → f new ≡ y → ((t : TapeState) → f (read_bytes t old) ≡ left t) → Reads k before after answer old new → ReadsInto k n before after answer x y left
reads_to f k n before after answer old new x y left len first last is h =
    on_unit (unit_at before k) (λ r. (r.0, sym last ∙ ap f r.1 ∙ first, r.2)) (λ r. tt)
    (λ t r. (r.0 ∙ ap (λ m. units_read (read_answer t m)) len, sym last ∙ ap f r.1 ∙ is t, r.2)) h

pub again_to : {X Y : Type 0} (f : X → Y) (k n : ℕ) (before after : Tapes) (answer : UnitsRead) (x y : X) (left : TapeState → X) (leaves : TapeState → Y) →
    ((t : TapeState) → f (left t) ≡ leaves t) → ReadsInto k n before after answer x y left → ReadsInto k n before after answer (f x) (f y) leaves
again_to f k n before after answer x y left leaves is h =
    on_unit (unit_at before k) (λ r. (r.0, ap f r.1, r.2)) (λ r. tt) (λ t r. (r.0, ap f r.1 ∙ is t, r.2)) h

-- ---- reads keep lengths

overlaid_length : (o : Option (List ℕ)) (old : List ℕ) → length (overlaid o old) ≡ length old
overlaid_length None old = refl
overlaid_length (Some bytes) old =
    length-append (take (length old) bytes) (drop (length bytes) old) ∙ grind (arith, length-take, length-drop)

pub read_length : (t : TapeState) (old : List ℕ) → length (read_bytes t old) ≡ length old
read_length t old = on (next_fails t)
  where
    on : (b : Bool) → length (if b then old else overlaid (next_record t) old) ≡ length old
    on true = refl
    on false = overlaid_length (next_record t) old

-- ---- bytes that are read

pub bytes_length : (t : TapeState) (old : List ℕ) → length (bytes_read t old) ≡ length old
bytes_length t old = length-map (read_bytes t old) (λ c. c % 256) ∙ read_length t old

low_bytes_same : (bytes : List ℕ) → AreBytes bytes → map (λ c. c % 256) bytes ≡ bytes
low_bytes_same [] h = refl
low_bytes_same (b ∷ bytes) h =
    let small : b % 256 ≡ b = (let lt : b < 256 = h 0 in omega (arith, lt)) in
    rw small (ap (λ xs. b ∷ xs) (low_bytes_same bytes (λ i. h (suc i))))

-- what was read into bytes are bytes
pub bytes_to : {X : Type 0} (f : List ℕ → X) (k n : ℕ) (before after : Tapes) (answer : UnitsRead) (old new : List ℕ) (x y : X) (left : TapeState → X) →
    length old ≡ n → AreBytes new → f old ≡ x → f new ≡ y → ((t : TapeState) → f (bytes_read t old) ≡ left t) → Reads k before after answer old new → ReadsInto k n before after answer x y left
bytes_to f k n before after answer old new x y left len are first last is h =
    on_unit (unit_at before k) (λ r. (r.0, sym last ∙ ap f r.1 ∙ first, r.2)) (λ r. tt)
    (λ t r. (r.0 ∙ ap (λ m. units_read (read_answer t m)) len, sym last ∙ ap f (sym (low_bytes_same new are) ∙ ap (map (λ c. c % 256)) r.1) ∙ is t, r.2)) h

same_piece : (i n : ℕ) (bytes : List ℕ) → i + n ≤ length bytes → with_piece i (piece i n bytes) bytes ≡ bytes
same_piece i n bytes room =
    ap (λ k. take i bytes ++ piece i n bytes ++ drop (i + k) bytes) (length-piece i n bytes room)
    ∙ ap (λ xs. take i bytes ++ piece i n bytes ++ xs) (sym (drop-drop n i bytes))
    ∙ append_assoc (take i bytes) (piece i n bytes) (drop n (drop i bytes))
    ∙ ap (λ xs. take i bytes ++ xs) (take-append-drop n (drop i bytes))
    ∙ take-append-drop i bytes

put_piece : (i j : ℕ) (bytes into : List ℕ) → length into ≡ j → put_mid i j bytes into ≡ with_piece i into bytes
put_piece i j bytes into long = sym (append_assoc (take i bytes) into (drop j (drop i bytes))) ∙ ap (λ xs. take i bytes ++ into ++ xs) (drop-drop j i bytes) ∙ ap (λ k. take i bytes ++ into ++ drop (i + k) bytes) (sym long)

-- a part of bytes was read into
pub part_to : (k n i j : ℕ) (before after : Tapes) (answer : UnitsRead) (bytes into : List ℕ) →
    j ≡ n → i + n ≤ length bytes → length into ≡ length (mid_of i j bytes) → AreBytes (put_mid i j bytes into) → Reads k before after answer (mid_of i j bytes) into → ReadsInto k n before after answer bytes (put_mid i j bytes into) (λ t. with_piece i (bytes_read t (piece i n bytes)) bytes)
part_to k n i j before after answer bytes into e room long are h =
    let old : mid_of i j bytes ≡ piece i n bytes = ap (λ m. piece i m bytes) e in
    let size : length (piece i n bytes) ≡ n = length-piece i n bytes room in
    let whole : length into ≡ j = long ∙ ap length old ∙ size ∙ sym e in
    let put = put_piece i j bytes into whole in
    let inside : i + length into ≤ length bytes = omega (arith, room, whole, e) in
    let part : AreBytes into = subst AreBytes (ap (λ xs. piece i (length into) xs) put ∙ piece-with_piece i into bytes inside) (AreBytes-piece i (length into) (put_mid i j bytes into) are) in
    bytes_to (λ xs. with_piece i xs bytes) k n before after answer (piece i n bytes) into bytes (put_mid i j bytes into) _ size part (same_piece i n bytes room) (sym put) (λ t. refl) (subst (λ xs. Reads k before after answer xs into) old h)

-- ---- the regions

piece_length : (first n address : ℕ) (bytes : List ℕ) → holds first bytes n address ≡ true → length (piece (address - first) n bytes) ≡ n
piece_length first n address bytes h = grind (arith, length-take, length-drop)

module _ (m : Memory) (n address : ℕ) (t : TapeState) where
  abbrev part : ℕ → List ℕ → List ℕ
  part first bytes = piece (address - first) n bytes

  abbrev read_part : ℕ → List ℕ → List ℕ
  read_part first bytes = bytes_read t (part first bytes)

  part_read : (first : ℕ) (bytes : List ℕ) → holds first bytes n address ≡ true → length (read_part first bytes) ≡ n
  part_read first bytes h = bytes_length t (part first bytes) ∙ piece_length first n address bytes h

  still : (first : ℕ) (bytes region : List ℕ) (r : List ℕ) (b : Bool) → length r ≡ n → holds first region n address ≡ b → holds first region (length r) address ≡ b
  still first bytes region r b len h = ap (λ k. holds first region k address) len ∙ h

  pub cells_read : holds FIRST_CELL m.cells n address ≡ true → record m { cells = with_piece (address - FIRST_CELL) (read_part FIRST_CELL m.cells) m.cells } ≡ with_bytes m address (bytes_read t (bytes_at [] m n address))
  unfolding bytes_at with_bytes
  cells_read h = rw h (rw (part_read FIRST_CELL m.cells h) (rw h refl))

  pub kinds_read : holds FIRST_CELL m.cells n address ≡ false → holds FIRST_KIND m.kinds n address ≡ true → record m { kinds = with_piece (address - FIRST_KIND) (read_part FIRST_KIND m.kinds) m.kinds } ≡ with_bytes m address (bytes_read t (bytes_at [] m n address))
  unfolding bytes_at with_bytes
  kinds_read c h = rw (c, h) (rw (part_read FIRST_KIND m.kinds h) (rw (c, h) refl))

  pub tables_read : holds FIRST_CELL m.cells n address ≡ false → holds FIRST_KIND m.kinds n address ≡ false → holds FIRST_TABLE m.tables n address ≡ true → record m { tables = with_piece (address - FIRST_TABLE) (read_part FIRST_TABLE m.tables) m.tables } ≡ with_bytes m address (bytes_read t (bytes_at [] m n address))
  unfolding bytes_at with_bytes
  tables_read c k h = rw (c, k, h) (rw (part_read FIRST_TABLE m.tables h) (rw (c, k, h) refl))

  no_constants : holds FIRST_SCRATCH m.scratch n address ≡ true → holds FIRST_CONSTANT [] n address ≡ false
  no_constants h = grind arith

  pub scratch_read : holds FIRST_CELL m.cells n address ≡ false → holds FIRST_KIND m.kinds n address ≡ false → holds FIRST_TABLE m.tables n address ≡ false → holds FIRST_SCRATCH m.scratch n address ≡ true → record m { scratch = with_piece (address - FIRST_SCRATCH) (read_part FIRST_SCRATCH m.scratch) m.scratch } ≡ with_bytes m address (bytes_read t (bytes_at [] m n address))
  unfolding bytes_at with_bytes
  scratch_read c k b h = let e = no_constants h in rw (c, k, b, e, h) (rw (part_read FIRST_SCRATCH m.scratch h) (rw (c, k, b, h) refl))

  drop_nothing : (i : ℕ) → drop {A = ℕ} i [] ≡ []
  drop_nothing zero = refl
  drop_nothing (suc i) = refl

  take_nothing : (i : ℕ) → take {A = ℕ} i [] ≡ []
  take_nothing zero = refl
  take_nothing (suc i) = refl

  nothing_at : holds FIRST_CELL m.cells n address ≡ false → holds FIRST_KIND m.kinds n address ≡ false → holds FIRST_TABLE m.tables n address ≡ false → holds FIRST_SCRATCH m.scratch n address ≡ false → bytes_at [] m n address ≡ []
  unfolding bytes_at
  nothing_at c k b h = rw (c, k, b, h) (on (holds FIRST_CONSTANT [] n address))
    where
      on : (x : Bool) → or_nothing (or_else (if x then Some (piece (address - FIRST_CONSTANT) n []) else None) None) ≡ []
      on true = ap (take n) (drop_nothing (address - FIRST_CONSTANT)) ∙ take_nothing n
      on false = refl

  -- no bytes are read where no region holds them
  pub none_read : n ≡ 0 → holds FIRST_CELL m.cells n address ≡ false → holds FIRST_KIND m.kinds n address ≡ false → holds FIRST_TABLE m.tables n address ≡ false → holds FIRST_SCRATCH m.scratch n address ≡ false → m ≡ with_bytes m address (bytes_read t (bytes_at [] m n address))
  unfolding with_bytes
  none_read z c k b h =
      let none = nothing_at c k b h in
      let len : length (bytes_read t (bytes_at [] m n address)) ≡ n = bytes_length t (bytes_at [] m n address) ∙ ap length none ∙ sym z in
      rw len (rw (c, k, b, h) refl)

-- ---- the values of a print

word_at : (count k : ℕ) (bytes : List ℕ) → k < count → get_or (words_in count bytes) k (pos 0) ≡ cast_signed w64 (number (take 8 (drop (8 * k) bytes)))
word_at zero k bytes lt = absurd (omega (arith, lt))
word_at (suc count) zero bytes lt = refl
word_at (suc count) (suc k) bytes lt =
    let next : 8 * suc k ≡ 8 + 8 * k = omega arith in
    word_at count k (drop 8 bytes) (omega (arith, lt)) ∙ ap (λ xs. cast_signed w64 (number (take 8 xs))) (drop-drop (8 * k) 8 bytes ∙ ap (λ i. drop i bytes) (sym next))

word_count : (count : ℕ) (bytes : List ℕ) → length (words_in count bytes) ≡ count
word_count zero bytes = refl
word_count (suc count) bytes = ap suc (word_count count (drop 8 bytes))

-- one value more
pub one_word_more : (count k : ℕ) (bytes word : List ℕ) (values more : List Value) → k < count → word ≡ take 8 (drop (8 * k) bytes) → more ≡ values ++ Number (cast_signed w64 (number word)) ∷ [] →
    values ≡ take k (map Number (words_in count bytes)) → more ≡ take (k + 1) (map Number (words_in count bytes))
one_word_more count k bytes word values more lt is pushed so =
    let within : k < length (map Number (words_in count bytes)) = grind (arith, length-map, word_count) in
    let here : k < length (words_in count bytes) = grind (arith, word_count) in
    let last = get_or-map Number (words_in count bytes) k (pos 0) (Number (pos 0)) here ∙ ap Number (word_at count k bytes lt ∙ ap (λ xs. cast_signed w64 (number xs)) (sym is)) in
    pushed ∙ ap (λ xs. xs ++ Number (cast_signed w64 (number word)) ∷ []) so ∙ ap (λ x. take k (map Number (words_in count bytes)) ++ x ∷ []) (sym last) ∙ sym (take_more (map Number (words_in count bytes)) k (Number (pos 0)) within)

pub all_words_taken : (count : ℕ) (bytes : List ℕ) (values : List Value) (k : ℕ) → count ≤ k → values ≡ take k (map Number (words_in count bytes)) → values ≡ map Number (words_in count bytes)
all_words_taken count bytes values k le e =
    e ∙ take_all k (map Number (words_in count bytes)) (grind (arith, length-map, word_count))

pub one_character_more : (k : ℕ) (bytes : List ℕ) (values more : List Value) → k < length bytes → more ≡ values ++ Char (get_or bytes k 0) ∷ [] → values ≡ take k (map Char bytes) → more ≡ take (k + 1) (map Char bytes)
one_character_more k bytes values more lt pushed so =
    let within : k < length (map Char bytes) = grind (arith, length-map) in
    pushed ∙ ap (λ xs. xs ++ Char (get_or bytes k 0) ∷ []) so ∙ ap (λ x. take k (map Char bytes) ++ x ∷ []) (sym (get_or-map Char bytes k 0 (Char 0) lt)) ∙ sym (take_more (map Char bytes) k (Char 0) within)

-- ---- reads into the regions

pub held : (n address first : ℕ) (test region : List ℕ) (b x : Bool) → b ≡ holds first test n address → test ≡ region → b ≡ x → holds first region n address ≡ x
held n address first test region b x is same so = ap (λ r. holds first r n address) (sym same) ∙ sym is ∙ so

module _ (m : Memory) (k n address : ℕ) (before after : Tapes) (answer : UnitsRead) (new : List ℕ) where
  abbrev Part : ℕ → List ℕ → Type 0
  Part first bytes = ReadsInto k n before after answer bytes new (λ t. with_piece (address - first) (bytes_read t (piece (address - first) n bytes)) bytes)

  abbrev Whole : Memory → Type 0
  Whole y = ReadsInto k n before after answer m y (λ t. with_bytes m address (bytes_read t (bytes_at [] m n address)))

  pub cells_into : (bytes y : List ℕ) → y ≡ new → bytes ≡ m.cells → holds FIRST_CELL m.cells n address ≡ true → Part FIRST_CELL bytes → Whole (record m { cells = y })
  cells_into bytes y e is h r =
      subst (λ b. Whole (record m { cells = b })) (sym e) (again_to (λ b. record m { cells = b }) k n before after answer m.cells new (λ t. with_piece (address - FIRST_CELL) (bytes_read t (piece (address - FIRST_CELL) n m.cells)) m.cells) _ (λ t. cells_read m n address t h) (subst (λ b. Part FIRST_CELL b) is r))

  pub kinds_into : (bytes y : List ℕ) → y ≡ new → bytes ≡ m.kinds → holds FIRST_CELL m.cells n address ≡ false → holds FIRST_KIND m.kinds n address ≡ true → Part FIRST_KIND bytes → Whole (record m { kinds = y })
  kinds_into bytes y e is c h r =
      subst (λ b. Whole (record m { kinds = b })) (sym e) (again_to (λ b. record m { kinds = b }) k n before after answer m.kinds new (λ t. with_piece (address - FIRST_KIND) (bytes_read t (piece (address - FIRST_KIND) n m.kinds)) m.kinds) _ (λ t. kinds_read m n address t c h) (subst (λ b. Part FIRST_KIND b) is r))

  pub tables_into : (bytes y : List ℕ) → y ≡ new → bytes ≡ m.tables → holds FIRST_CELL m.cells n address ≡ false → holds FIRST_KIND m.kinds n address ≡ false → holds FIRST_TABLE m.tables n address ≡ true → Part FIRST_TABLE bytes → Whole (record m { tables = y })
  tables_into bytes y e is c d h r =
      subst (λ b. Whole (record m { tables = b })) (sym e) (again_to (λ b. record m { tables = b }) k n before after answer m.tables new (λ t. with_piece (address - FIRST_TABLE) (bytes_read t (piece (address - FIRST_TABLE) n m.tables)) m.tables) _ (λ t. tables_read m n address t c d h) (subst (λ b. Part FIRST_TABLE b) is r))

  pub scratch_into : (bytes y : List ℕ) → y ≡ new → bytes ≡ m.scratch → holds FIRST_CELL m.cells n address ≡ false → holds FIRST_KIND m.kinds n address ≡ false → holds FIRST_TABLE m.tables n address ≡ false → holds FIRST_SCRATCH m.scratch n address ≡ true → Part FIRST_SCRATCH bytes → Whole (record m { scratch = y })
  scratch_into bytes y q is c d e h r =
      subst (λ b. Whole (record m { scratch = b })) (sym q) (again_to (λ b. record m { scratch = b }) k n before after answer m.scratch new (λ t. with_piece (address - FIRST_SCRATCH) (bytes_read t (piece (address - FIRST_SCRATCH) n m.scratch)) m.scratch) _ (λ t. scratch_read m n address t c d e h) (subst (λ b. Part FIRST_SCRATCH b) is r))

can_nothing : (m : Memory) (n address : ℕ) → can_store m n address ≡ true → holds FIRST_CELL m.cells n address ≡ false → holds FIRST_KIND m.kinds n address ≡ false → holds FIRST_TABLE m.tables n address ≡ false → holds FIRST_SCRATCH m.scratch n address ≡ false → n ≡ 0
unfolding can_store
can_nothing m n address can c d e f = let z = (rw (c, d, e, f) at can) in grind arith

pub nothing_into : (m : Memory) (k n address : ℕ) (before after : Tapes) (answer : UnitsRead) (new : List ℕ) → can_store m n address ≡ true → holds FIRST_CELL m.cells n address ≡ false → holds FIRST_KIND m.kinds n address ≡ false → holds FIRST_TABLE m.tables n address ≡ false → holds FIRST_SCRATCH m.scratch n address ≡ false →
    Reads k before after answer [] new → ReadsInto k n before after answer m m (λ t. with_bytes m address (bytes_read t (bytes_at [] m n address)))
nothing_into m k n address before after answer new can c d e f r =
    let z = can_nothing m n address can c d e f in
    reads_to (λ b. m) k n before after answer [] new m m _ (sym z) refl refl (λ t. none_read m n address t z c d e f) r
