-- What a demo is made from.
use Rattle.std.specs.Prelude.{ℕ, codes}
use Rattle.std.specs.declared.result.Result.{Result}
use Rattle.std.specs.FinMap.{empty, insert}
use Rattle.sil_base.specs.Files.{Files}
use Rattle.sil_check.specs.CheckedPrograms.{Job}
use Rattle.demo_source.specs.DemoSource.{demo_source, demo_params, demo_tables}
use Rattle.command_report.specs.declared.ending.Stop.{Stop}
use Rattle.command_words.specs.CommandOrders.{SourceNames}
use Rattle.sil_cli.specs.CommandFiles.{job_at}

abbrev pub demo_names : SourceNames
demo_names = record { source = codes "source"; tables = codes "tables"; params = codes "params" }

-- the files of a demo of so many cards from a seed
abbrev pub demo_files : ℕ → ℕ → Files
demo_files cards seed = insert (insert (insert empty (codes "tables") demo_tables) (codes "params") demo_params) (codes "source") (demo_source cards seed)

-- the program of a demo, or the stop
abbrev pub demo_job : ℕ → ℕ → Result Job Stop
demo_job cards seed = job_at demo_names (demo_files cards seed)
