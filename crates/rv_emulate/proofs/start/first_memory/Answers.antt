use Rattle.std.proofs.Common.{◌≡◌, ℕ, List, subst, IfOk}
use Rattle.rv_emulate.specs.EmulatorStates.{first_memory}
use Rattle.rv_emulate.specs.CpuView.{memory_of}
use Rattle.rv_emulate.proofs.start.first_memory.Goals as goal

pub returns : goal.returns
returns c =
    let P : List ℕ → Type 0 = λ xs. IfOk c.regions.result (λ g. memory_of g ≡ record (first_memory c.args.image.now) { scratch = xs }) in
    subst P c.in_ok-scratch.ensures.zeros c.regions.ensures
