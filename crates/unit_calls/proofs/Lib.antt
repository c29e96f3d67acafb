mod UnitChanges
mod PrintLemmas
mod ProbeLemmas
