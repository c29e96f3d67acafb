-- The numbers of a legal image fit their bytes.
use Rattle.std.proofs.Common.{◌≡◌, ℕ, zero, suc, ◌+◌, ◌*◌, ◌%◌, ◌^◌, ◌<◌, ◌≤◌, ◌⊎◌, inl, inr, Bool, true, false, ◌||◌, ◌&&◌, ◌==◌, nat_le, nat_lt, List, [], ◌∷◌, ◌++◌, All, refl, arith}
use Rattle.std.specs.Prelude.{IsTrue}
use Rattle.std.proofs.Math.Pow.{pow-lt}
use Rattle.layout_params.specs.Parameters.{Settings, AreLegalSettings, AreBits, is_bit_below, settings_numbers}
use Rattle.layout_params.proofs.LegalLayouts.{IsLegal, legal}
use Rattle.image_file.specs.Image.{StatementEntry, places_rise}
use Rattle.image_file.specs.Spelling.{FitAll}
use Rattle.image_file.specs.ImageReading.{FitEntries}

FitAll-append : (n : ℕ) (xs ys : List ℕ) → FitAll n xs → FitAll n ys → FitAll n (xs ++ ys)
FitAll-append n [] ys h k = k
FitAll-append n (x ∷ xs) ys h k = (h.0, FitAll-append n xs ys h.1 k)

either : (a b : Bool) → (a || b) ≡ true → (a ≡ true) ⊎ (b ≡ true)
either true b h = inl refl
either false b h = inr h

bit_fits : (w n : ℕ) → IsTrue (is_bit_below w n) → n < 2 ^ w
bit_fits zero n h = cc
bit_fits (suc w) n h =
    let larger : 2 ^ w < 2 ^ suc w = pow-lt {i = w} {j = suc w} (omega arith) in
    elim (either (n == 2 ^ w) (is_bit_below w n) h) [ inl e ↦ (let same : n ≡ 2 ^ w = grind (arith, e) in omega arith) | inr e ↦ (let low = bit_fits w n e in omega arith) ]

flags_fit : (w : ℕ) (ns : List ℕ) → w ≤ 32 → AreBits w ns → FitAll 8 ns
flags_fit w [] le h = tt
flags_fit w (n ∷ ns) le h =
    let low : n < 2 ^ w = bit_fits w n h.0 in
    let limit : 2 ^ w < 2 ^ 33 = pow-lt {i = w} {j = 33} (omega arith) in
    (omega arith, flags_fit w ns le h.2)

pub parameters_fit : (s : Settings) → AreLegalSettings s → FitAll 8 (settings_numbers s)
parameters_fit s h =
    let l : IsLegal s.sizes = legal s.sizes h.layout in
    let f : s.sizes.f_len ≤ 4 = grind (arith, l.f_width) in
    let v : s.sizes.v_len ≤ 8 = grind (arith, l.v_width) in
    let sizes : List ℕ = s.sizes.descr ∷ s.sizes.a_at ∷ s.sizes.f_at ∷ s.sizes.f_len ∷ s.sizes.v_at ∷ s.sizes.v_len ∷ [] in
    let flags : List ℕ = s.function_flag ∷ s.mark_flag ∷ s.pointer_flag ∷ s.string_title_flag ∷ s.title_flag ∷ [] in
    let others : List ℕ = s.stack_size ∷ s.dynamic_size ∷ s.bucket_count ∷ [] in
    let sizes_fit : FitAll 8 sizes = (omega arith, (omega arith, (omega arith, (omega arith, (omega arith, (omega arith, tt)))))) in
    let others_fit : FitAll 8 others = (omega arith, (omega arith, (omega arith, tt))) in
    FitAll-append 8 sizes (flags ++ others) sizes_fit (FitAll-append 8 flags others (flags_fit (8 * s.sizes.f_len) flags (omega arith) h.flags) others_fit)

pub words_fit : (xs : List ℕ) → All (λ w. w < 2 ^ 32) xs → FitAll 4 xs
words_fit [] h = tt
words_fit (x ∷ xs) h = (h 0 0 (omega arith), words_fit xs (λ k d lt. h (suc k) d (omega arith)))

pub FitEntries-append : (es fs : List StatementEntry) → FitEntries es → FitEntries fs → FitEntries (es ++ fs)
FitEntries-append [] fs h k = k
FitEntries-append (e ∷ es) fs h k = (h.0, h.1, FitEntries-append es fs h.2 k)

both : (a b c d : Bool) → (a && b && c && d) ≡ true → (c ≡ true) × (d ≡ true)
both a b c d h = grind arith

pub entries_fit_bytes : (least end : ℕ) (es : List StatementEntry) → end ≤ 2 ^ 33 → IsTrue (places_rise least end es) → All (λ e. e.card < 2 ^ 32) es → FitEntries es
entries_fit_bytes least end [] le rise cards = tt
entries_fit_bytes least end (e ∷ es) le rise cards =
    let p = both (nat_le least e.place) (e.place % 4 == 0) (nat_lt e.place end) (places_rise (e.place + 1) end es) rise in
    let below : e.place < end = grind (arith, p.0) in
    (omega arith, cards 0 e (omega arith), entries_fit_bytes (e.place + 1) end es le p.1 (λ k d lt. cards (suc k) d (omega arith)))
