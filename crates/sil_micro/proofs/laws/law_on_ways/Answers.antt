use Rattle.sil_micro.proofs.Meetings.{meets_once}
use Rattle.sil_micro.proofs.Ways.{goes}
use Rattle.sil_micro.proofs.laws.law_on_ways.Goals as goal

pub returns-clause-ways : goal.returns-clause-ways
returns-clause-ways c = λ g code base next piece stands fuel place u le. goes g code base next piece stands fuel place u le

pub returns-clause-meeting : goal.returns-clause-meeting
returns-clause-meeting c = λ g next k piece fuel part once begins. meets_once g next piece part once k fuel begins
