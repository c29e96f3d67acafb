-- Tops of the stack, above and below another.
use Rattle.std.proofs.Common.{◌≡◌, ℕ, ◌+◌, ◌-◌, ◌*◌, ◌/◌, ◌%◌, ◌^◌, ◌≤◌, ◌<◌, ℤ, pos, negsuc, sym, ap, ◌∙◌, arith}
use Rattle.std.specs.Prelude.{FitsSigned, true, false, ◌&&◌, ◌==◌, nat_le, int_lt, length}
use Rattle.std.specs.Int.{w64, int_wrap}
use Rattle.std.proofs.lemmas.Int.{wrapping_add_is, wrapping_sub_is, int_wrap_fits, ints}
use Rattle.std.proofs.lemmas.Bool.Decides.{nat_tests}
use Rattle.std.proofs.lemmas.Nat.{mul-le, div-add-mod'}
use Rattle.std.proofs.Math.IntN.{◌-ℤ◌, +ℤ_idr}
use Rattle.std.proofs.Math.Nat.{add-mul, le_of_mul-le-mul_right}
use Rattle.sil_base.specs.declared.places.TheConstants.{FIRST_CELL}
use Rattle.layout_params.specs.Areas.{all_cells, empty_stack, hidden_cells}
use Rattle.layout_params.specs.Parameters.{Settings}
use Rattle.flow_clauses.specs.CallClauses.{is_top}
use Rattle.sil_model.specs.Integers.{◌⊞◌, ◌⊟◌, wrapped_sum, wrapped_difference}
use Rattle.sil_model.specs.Sites.{Site}
use Rattle.flow_clauses.specs.StackClauses.{bottom, last_cell}
use Rattle.sil_model.specs.Valid.{IsTop}
use Rattle.sil_model.proofs.Leaves.{IsRoomy}

pub small_fits : (x : ℕ) → x < 2 ^ 63 → FitsSigned w64 (pos x)
small_fits x h = grind (arith, ints)

sum_small : (x y : ℕ) → x + y < 2 ^ 63 → pos x ⊞ pos y ≡ pos (x + y)
unfolding wrapped_sum
sum_small x y h = wrapping_add_is w64 (pos x) (pos y) (small_fits x (omega arith)) (small_fits y (omega arith)) ∙ int_wrap_fits w64 (pos (x + y)) (small_fits (x + y) h)

difference_small : (x y : ℕ) → y ≤ x → x < 2 ^ 63 → pos x ⊟ pos y ≡ pos (x - y)
unfolding wrapped_difference
difference_small x y h k =
    let e : pos x -ℤ pos y ≡ pos (x - y) = omega (arith, ints) in
    wrapping_sub_is w64 (pos x) (pos y) (small_fits x k) (small_fits y (omega arith)) ∙ (ap (int_wrap w64) e ∙ int_wrap_fits w64 (pos (x - y)) (small_fits (x - y) (omega arith)))

not_below : (x y : ℕ) → int_lt (pos x) (pos y) ≡ false → y ≤ x
not_below x y h = grind (arith, ints)

-- a cell of the machine lies below 2^26 from the first one
low_cell : (x i d stack : ℕ) → d ≤ 64 → x + stack ≤ 2 ^ 20 → i ≤ stack → x * d + i * d ≤ 2 ^ 26
low_cell x i d stack most few within =
    let e : (x + i) * d ≡ x * d + i * d = add-mul x i d in
    let low : (x + i) * d ≤ 2 ^ 20 * 64 = mul-le (x + i) d (2 ^ 20) 64 (omega arith) most in
    omega arith

pub top_fits : (settings : Settings) (statics : ℕ) (at : ℤ) → IsRoomy settings statics → IsTop settings statics at → FitsSigned w64 at
top_fits settings statics at r (i, within, is) =
    let d = settings.sizes.descr in
    let x = statics + hidden_cells settings + settings.dynamic_size in
    let low : x * d + i * d ≤ 2 ^ 26 = low_cell x i d settings.stack_size r.most (omega (arith, r.few)) within in
    rw is (small_fits (FIRST_CELL + x * d - d + i * d) (omega arith))

-- the cell before the stack
pub bottom_top : (site : Site) → IsTop site.parameters.settings (length site.program.cells) (bottom site)
bottom_top site = let none : 0 * site.parameters.settings.sizes.descr ≡ 0 = omega arith in (0, omega arith, rw none (sym (+ℤ_idr (bottom site))))

rise : (x i m d stack all : ℕ) → 16 ≤ d → d ≤ 64 → all ≡ x + stack → FIRST_CELL + x * d - d + i * d + m * d ≤ FIRST_CELL + all * d - d → i + m ≤ stack
rise x i m d stack all least most is h =
    let e : all * d ≡ x * d + stack * d = ap (λ n. n * d) is ∙ add-mul x stack d in
    let f : (i + m) * d ≡ i * d + m * d = add-mul i m d in
    let g : (i + m) * d ≤ stack * d = omega arith in
    le_of_mul-le-mul_right g (omega arith)

-- so many cells above a top, where that isn't above the last cell
pub top_above : (settings : Settings) (statics m : ℕ) (at : ℤ) → IsRoomy settings statics → m ≤ 82 → IsTop settings statics at →
    int_lt (last_cell settings statics) (at ⊞ pos (m * settings.sizes.descr)) ≡ false → IsTop settings statics (at ⊞ pos (m * settings.sizes.descr))
top_above settings statics m at r short (i, within, is) h =
    let d = settings.sizes.descr in
    let x = statics + hidden_cells settings + settings.dynamic_size in
    let all : all_cells settings statics ≡ x + settings.stack_size = omega arith in
    let low : x * d + i * d ≤ 2 ^ 26 = low_cell x i d settings.stack_size r.most (omega (arith, r.few)) within in
    let rest : m * d ≤ 82 * 64 = mul-le m d 82 64 short r.most in
    let sum : at ⊞ pos (m * d) ≡ pos (FIRST_CELL + x * d - d + i * d + m * d) = rw is (sum_small (FIRST_CELL + x * d - d + i * d) (m * d) (omega arith)) in
    let room : i + m ≤ settings.stack_size = rise x i m d settings.stack_size (all_cells settings statics) r.least r.most all (not_below _ _ (rw sum at h)) in
    let f : (i + m) * d ≡ i * d + m * d = add-mul i m d in
    (i + m, room, sum ∙ ap pos (omega arith))

fall : (e i m d : ℕ) → 16 ≤ d → m * d ≤ e → e ≤ e + i * d - m * d → m ≤ i
fall e i m d least small h =
    let g : m * d ≤ i * d = omega arith in
    le_of_mul-le-mul_right g (omega arith)

-- so many cells below a top, where that isn't below the cell before the stack
pub top_below : (settings : Settings) (statics m : ℕ) (at : ℤ) → IsRoomy settings statics → m ≤ 82 → IsTop settings statics at →
    int_lt (at ⊟ pos (m * settings.sizes.descr)) (empty_stack settings statics) ≡ false → IsTop settings statics (at ⊟ pos (m * settings.sizes.descr))
top_below settings statics m at r short (i, within, is) h =
    let d = settings.sizes.descr in
    let x = statics + hidden_cells settings + settings.dynamic_size in
    let few : x + settings.stack_size ≤ 2 ^ 20 = omega (arith, r.few) in
    let low : x * d + i * d ≤ 2 ^ 26 = low_cell x i d settings.stack_size r.most few within in
    let rest : m * d ≤ 82 * 64 = mul-le m d 82 64 short r.most in
    let high : 82 * 64 ≤ FIRST_CELL + x * d - d = omega (arith, r.most) in
    let sum : at ⊟ pos (m * d) ≡ pos (FIRST_CELL + x * d - d + i * d - m * d) = rw is (difference_small (FIRST_CELL + x * d - d + i * d) (m * d) (omega arith) (omega arith)) in
    let room : m ≤ i = fall (FIRST_CELL + x * d - d) i m d r.least (omega arith) (not_below _ _ (rw sum at h)) in
    let f : (i - m + m) * d ≡ (i - m) * d + m * d = add-mul (i - m) m d in
    let g : i - m + m ≡ i = omega arith in
    let k : i * d ≡ (i - m) * d + m * d = ap (λ n. n * d) (sym g) ∙ f in
    (i - m, omega arith, sum ∙ ap pos (omega arith))

-- an address that passes the test is a top of the stack
passes : (b at last d stack : ℕ) → 16 ≤ d → last ≡ b + stack * d → (nat_le b at && nat_le at last && ((at - b) % d == 0)) ≡ true → (i : ℕ) × (i ≤ stack) × (at ≡ b + i * d)
passes b at last d stack least is h =
    let low : b ≤ at = grind (arith, nat_tests) in
    let high : at ≤ last = grind (arith, nat_tests) in
    let whole : (at - b) % d ≡ 0 = grind (arith, nat_tests) in
    let e : (at - b) / d * d ≡ at - b = omega (arith, div-add-mod' (at - b) d) in
    ((at - b) / d, le_of_mul-le-mul_right {k = d} (omega arith) (omega arith), omega arith)

pub tested_top : (site : Site) (at : ℤ) → IsRoomy site.parameters.settings (length site.program.cells) → is_top site at ≡ true → IsTop site.parameters.settings (length site.program.cells) at
unfolding is_top
tested_top site (negsuc at) r h = cc
tested_top site (pos at) r h =
    let settings = site.parameters.settings in
    let statics = length site.program.cells in
    let d = settings.sizes.descr in
    let x = statics + hidden_cells settings + settings.dynamic_size in
    let e : (x + settings.stack_size) * d ≡ x * d + settings.stack_size * d = add-mul x settings.stack_size d in
    let all : all_cells settings statics ≡ x + settings.stack_size = omega arith in
    let f : all_cells settings statics * d ≡ (x + settings.stack_size) * d = ap (λ n. n * d) all in
    let i = passes (FIRST_CELL + x * d - d) at (FIRST_CELL + all_cells settings statics * d - d) d settings.stack_size r.least (omega (arith, r.most)) h in
    (i.0, i.1, ap pos i.2)
