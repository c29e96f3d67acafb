use Rattle.std.proofs.Common.{◌∙◌, ap, refl, ◌≡◌, ◌≤◌, ◌<◌, ◌+◌, ◌-◌, ◌*◌, ◌/◌, ◌^◌, ℕ, to_z, pos, w64, arith}
use Rattle.std.proofs.lemmas.Int.{to_z_pos}
use Rattle.std.proofs.lemmas.Nat.{mul-le}
use Rattle.sil_base.specs.declared.places.TheConstants.{FIRST_CELL}
use Rattle.layout_params.proofs.settings.Settings.empty_stack.Goals as goal

below : (n size : ℕ) → n ≤ 2 ^ 20 → size ≤ 64 → FIRST_CELL + n * size - size < 2 ^ 63
below n size few small = omega (arith, mul-le n size (2 ^ 20) 64 few small)

top_is : (n size statics hidden dynamic descr : ℕ) → hidden ≡ (20 + descr - 1) / descr → size ≡ descr → n ≡ statics + hidden + dynamic → n ≤ 2 ^ 20 → size ≤ 64
    → to_z w64 (FIRST_CELL + n * size - size) ≡ pos (FIRST_CELL + (statics + (20 + descr - 1) / descr + dynamic) * descr - descr)
top_is n size statics hidden dynamic descr h s is few small =
    to_z_pos w64 (FIRST_CELL + n * size - size) (below n size few small)
    ∙ ap (λ k. pos (FIRST_CELL + n * k - k)) s
    ∙ ap (λ k. pos (FIRST_CELL + k * descr - descr)) (is ∙ ap (λ k. statics + k + dynamic) h)

pub returns : goal.returns
returns c =
    let s = c.args.self.now in
    let size : c.descr-size.result ≡ s.sizes.descr = c.descr-size.ensures ∙ ap (λ z. z.descr) c.numbers.ensures.sizes in
    let small : c.descr-size.result ≤ 64 = (let most = c.numbers.ensures.descr.1 in omega arith) in
    let dynamic = c.dynamic_size.ensures.value in
    let hidden = c.hidden_cells.ensures.value in
    let few : c.args.statics + c.hidden_cells.result + c.dynamic_size.result ≤ 2 ^ 20 = (let all = c.requires in omega (arith, hidden, dynamic)) in
    top_is (c.args.statics + c.hidden_cells.result + c.dynamic_size.result) c.descr-size.result c.args.statics c.hidden_cells.result c.dynamic_size.result s.sizes.descr hidden size refl few small
    ∙ ap (λ k. pos (FIRST_CELL + (c.args.statics + (20 + s.sizes.descr - 1) / s.sizes.descr + k) * s.sizes.descr - s.sizes.descr)) dynamic
