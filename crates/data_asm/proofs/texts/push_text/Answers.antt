use Rattle.std.proofs.Common.{◌≡◌, ◌≤◌, ◌++◌, ◌∷◌, [], length, take, drop, append_assoc, arith, ap, sym, ◌∙◌}
use Rattle.std.proofs.lemmas.Bool.Decides.{nat_tests}
use Rattle.data_asm.specs.CharacterCells.{characters, text_cells}
use Rattle.data_asm.proofs.TextLemmas.{text_step}
use Rattle.data_asm.proofs.texts.push_text.Goals as goal

pub loop-rest-preserved : goal.loop-rest-preserved
loop-rest-preserved c =
    let some : 1 ≤ length c.loop-rest.rest.now = grind (arith, nat_tests) in
    let size = c.args.size in
    let items = c.loop-rest.cells.items in
    let text = c.loop-rest.rest.now in
    let step = text_step size text c.requires.some some in
    let cell : c.characters.result ≡ characters (take size text) = c.characters.ensures ∙ ap characters c.cut.ensures.first in
    let pushed : c.push.new.self.items ≡ items ++ (characters (take size text) ∷ []) = c.in_ok-push.ensures.items ∙ ap (λ x. items ++ (x ∷ [])) cell in
    let rest : text_cells size c.cut.result.1.now ≡ text_cells size (drop size text) = ap (text_cells size) c.cut.ensures.rest in
    let assoc : (items ++ (characters (take size text) ∷ [])) ++ text_cells size (drop size text) ≡ items ++ (characters (take size text) ∷ text_cells size (drop size text)) =
    append_assoc items (characters (take size text) ∷ []) (text_cells size (drop size text)) in
    ap (λ xs. xs ++ text_cells size c.cut.result.1.now) pushed
    ∙ ap (λ xs. (items ++ (characters (take size text) ∷ [])) ++ xs) rest
    ∙ assoc
    ∙ ap (λ xs. items ++ xs) (sym step)
    ∙ c.loop-rest.invariant
