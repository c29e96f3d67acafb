use Rattle.rows_expand.proofs.sources.code_of.Goals as goal

pub expand_all-requires-clause-built : goal.expand_all-requires-clause-built
expand_all-requires-clause-built c = c.law_of_built_programs.ensures c.checked.inside.program c.checked.invariant.built
