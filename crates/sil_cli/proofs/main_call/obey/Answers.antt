use Rattle.sil_cli.proofs.Tellings.{tells-nothing}
use Rattle.sil_cli.proofs.main_call.obey.Goals as goal

pub returns-in-Check : goal.returns-in-Check
returns-in-Check g c = tells-nothing _ _ _ _ _ _ _ _ _ _ _ _ c.quietly.ensures.ending c.quietly.ensures.put (rw c.into.ensures (rw c.in-Check.is (c.check_source.ensures _)))

pub returns-in-Install : goal.returns-in-Install
returns-in-Install g c = tells-nothing _ _ _ _ _ _ _ _ _ _ _ _ c.quietly-in-Install.ensures.ending c.quietly-in-Install.ensures.put (rw c.into-in-Install.ensures (rw c.in-Install.is (c.install_source.ensures _)))

pub returns-in-Run : goal.returns-in-Run
returns-in-Run g c = tells-nothing _ _ _ _ _ _ _ _ _ _ _ _ c.quietly-in-Run.ensures.ending c.quietly-in-Run.ensures.put (rw c.into-in-Run.ensures (rw c.in-Run.is c.run_file.ensures))

pub returns-in-Trace : goal.returns-in-Trace
returns-in-Trace g c = rw c.in-Trace.is c.trace_file.ensures

pub returns-in-Sim : goal.returns-in-Sim
returns-in-Sim g c = tells-nothing _ _ _ _ _ _ _ _ _ _ _ _ c.quietly-in-Sim.ensures.ending c.quietly-in-Sim.ensures.put (rw c.into-in-Sim.ensures (rw c.in-Sim.is c.simulate.ensures))

pub returns-in-List : goal.returns-in-List
returns-in-List g c = rw c.in-List.is (c.list_file.ensures _)

pub returns-in-Go : goal.returns-in-Go
returns-in-Go g c = tells-nothing _ _ _ _ _ _ _ _ _ _ _ _ c.quietly-in-Go.ensures.ending c.quietly-in-Go.ensures.put (rw c.into-in-Go.ensures (rw c.in-Go.is c.go.ensures))

pub returns-in-Demo : goal.returns-in-Demo
returns-in-Demo g c = rw c.in-Demo.is c.demo.ensures
