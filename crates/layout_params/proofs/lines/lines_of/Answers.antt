use Rattle.std.proofs.Common.{◌∙◌, ◌≡◌, ℕ, List, [], ◌∷◌, ◌++◌, map, Bor, ap, sym, refl, arith, append_assoc}
use Rattle.std.proofs.lemmas.List.{append-nil, map-append}
use Rattle.sil_base.specs.Lines as text
use Rattle.sil_base.specs.Lines.{without_end}
use Rattle.sil_base.specs.Names.{texts_of}
use Rattle.layout_params.specs.ParameterLines.{lines_of}
use Rattle.layout_params.proofs.lines.lines_of.Goals as goal

texts_of-push : (all texts : List (Bor (List ℕ))) (text : Bor (List ℕ)) → all ≡ texts ++ text ∷ [] → texts_of all ≡ texts_of texts ++ text.now ∷ []
texts_of-push all texts text h = rw (h, map-append) refl

-- the lines so far and those of the rest, with one line more
lines_more : (all done : List (List ℕ)) (rest line next cut : List ℕ) → all ≡ done ++ lines_of rest → text.lines_of rest ≡ line ∷ text.lines_of next → cut ≡ without_end line → all ≡ (done ++ cut ∷ []) ++ lines_of next
lines_more all done rest line next cut h first same =
    h ∙ ap (λ lines. done ++ map without_end lines) first ∙ rw (same, append_assoc) refl

pub loop-line-preserved : goal.loop-line-preserved
loop-line-preserved c =
    record {
      lines =
          lines_more (lines_of c.args.bytes.now) (texts_of c.loop-line.lines.items) c.loop-line.rest.now c.in-Some.line.now c.in-Some.next.now c.without_end.result.now c.loop-line.invariant.lines c.in-Some.ensures.lines c.without_end.ensures
          ∙ ap (λ texts. texts ++ lines_of c.in-Some.next.now) (sym (texts_of-push c.push.new.self.items c.loop-line.lines.items c.without_end.result c.in_ok-push.ensures.items));
      count = omega (arith, c.loop-line.invariant.count, c.in-Some.ensures.shorter, c.in_ok-push.ensures.len);
    }
