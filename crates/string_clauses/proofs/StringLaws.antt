-- The laws of the macros that walk characters.
use Rattle.std.proofs.Common.{refl, arith}
use Rattle.std.specs.Int.{w64}
use Rattle.std.specs.Prelude.{FitsSigned, length}
use Rattle.sil_macros.specs.declared.names.Macro.{Macro}
use Rattle.sil_macros.specs.declared.names.Macro.TheVariants.{Apdsp, Date, Getbal, Intspc, Lexcmp, Rplace, Spcint, Trimsp, Varid}
use Rattle.sil_model.specs.Fits.{bounds_of}
use Rattle.sil_model.specs.Sites.{Site}
use Rattle.sil_model.specs.States.{State}
use Rattle.sil_model.specs.UnitMacros.{KeepsTapes}
use Rattle.sil_model.proofs.Lawful.{IsLawful, at_start, few_lawful, memory_lawful, site_lawful}
use Rattle.sil_model.proofs.Leaves.{IsHere, Leaves}
use Rattle.string_clauses.specs.StringClauses.{apdsp, date, getbal, intspc, lexcmp, rplace, spcint, trimsp, varid}
use Rattle.string_clauses.specs.StringTable.{hidden_of, string_clause, string_visits}
use Rattle.string_clauses.proofs.StringKeeps.{apdsp_keeps, date_bytes, date_keeps, getbal_keeps, hidden_fits, intspc_keeps, lexcmp_keeps, rplace_keeps, spcint_keeps, trimsp_keeps, varid_keeps}
use Rattle.string_clauses.proofs.StringVisits.{apdsp_few, getbal_few, lexcmp_few, rplace_few, spcint_few, trimsp_few, varid_few}

hidden_is : (site : Site) (s : State) → IsHere site s → FitsSigned w64 (hidden_of site)
hidden_is site s h = hidden_fits (length site.program.cells) site.parameters.settings.sizes.descr (omega (arith, h.roomy.few)) h.roomy.most

pub string_lawful : (name : Macro) → IsLawful name (string_clause name) (string_visits name)
unfolding string_clause Leaves KeepsTapes
string_lawful Apdsp = memory_lawful Apdsp apdsp refl apdsp_keeps (λ site s few h. omega (arith, apdsp_few site.args s.memory h.sound.memory))
string_lawful Date = site_lawful Date (λ site m. date (hidden_of site) site.parameters.settings.date site.args m) refl (λ site s legal h. date_keeps _ (hidden_of site) site.parameters.settings.date site.args s.memory h.sound.memory (date_bytes site.parameters.settings.date legal.date.1) (hidden_is site s h)) (λ site s few h. omega arith)
string_lawful Getbal = memory_lawful Getbal getbal refl getbal_keeps (λ site s few h. omega (arith, getbal_few site.args s.memory h.sound.memory))
string_lawful Intspc = site_lawful Intspc (λ site m. intspc (hidden_of site) site.args m) refl (λ site s legal h. intspc_keeps _ (hidden_of site) site.args s.memory h.sound.memory (hidden_is site s h)) (λ site s few h. omega arith)
string_lawful Lexcmp = memory_lawful Lexcmp lexcmp refl lexcmp_keeps (λ site s few h. omega (arith, lexcmp_few site.args s.memory h.sound.memory))
string_lawful Rplace = memory_lawful Rplace rplace refl rplace_keeps (λ site s few h. omega (arith, rplace_few site.args s.memory h.sound.memory))
string_lawful Spcint = site_lawful Spcint (λ site m. spcint site.program.specials.int_code site.args m) refl (λ site s legal h. spcint_keeps (bounds_of site.program site.parameters.settings) site.program.specials.int_code site.args s.memory h.args h.sound.memory) (λ site s few h. omega (arith, spcint_few site.args s.memory h.sound.memory))
string_lawful Trimsp = memory_lawful Trimsp trimsp refl trimsp_keeps (λ site s few h. omega (arith, trimsp_few site.args s.memory h.sound.memory))
string_lawful Varid = site_lawful Varid (λ site m. varid site.parameters.settings.bucket_count site.args m) refl (λ site s legal h. varid_keeps _ site.parameters.settings.bucket_count site.args s.memory h.sound.memory) (λ site s few h. omega (arith, varid_few site.args s.memory h.sound.memory))
string_lawful name = few_lawful name (λ site s h. tt) (λ site s h. tt) (λ site s h. omega arith)
