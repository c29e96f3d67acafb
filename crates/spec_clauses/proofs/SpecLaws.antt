-- The laws of the macros on specifiers.
use Rattle.std.proofs.Common.{ℕ, refl, arith}
use Rattle.sil_macros.specs.declared.names.Macro.TheVariants.{Addlg, Bksize, Fshrtn, Getlg, Getlth, Getspc, Locsp, Putlg, Putspc, Remsp, Setlc, Setsp, Shortn, Subsp}
use Rattle.sil_macros.specs.declared.names.Macro.{Macro}
use Rattle.sil_model.specs.Fits.{bounds_of}
use Rattle.sil_model.specs.UnitMacros.{KeepsTapes}
use Rattle.sil_model.proofs.Keeps.{keeps_here, keeps_read, keeps_write, sum_fits, writes_set_a, writes_read, writes_set_descr, writes_set_v}
use Rattle.sil_model.proofs.Lists.{spec_fits, writes_set_spec}
use Rattle.sil_model.proofs.Operands.{fits_value_alone, goto_leads}
use Rattle.sil_model.proofs.Lawful.{IsLawful, KeepsMemory, KeepsOnSite, few_lawful, on_memory_lawful, on_site_lawful}
use Rattle.sil_model.proofs.Leaves.{Leaves}
use Rattle.spec_clauses.specs.SpecifierClauses.{addlg, bksize, fshrtn, getlg, getlth, getspc, locsp, putlg, putspc, remsp, setlc, setsp, shortn, subsp, sized_block}
use Rattle.spec_clauses.specs.SpecTable.{spec_clause, spec_visits}
use Rattle.spec_clauses.proofs.SpecFits.{cut_fits, keeps_if, keeps_leads, moved_fits, titled_fits, wrapped_fits, writes_then_set_v}

addlg_keeps : KeepsMemory addlg
unfolding addlg
addlg_keeps b args m w h = search (keeps_read, keeps_write, writes_set_v) depth 24

fshrtn_keeps : KeepsMemory fshrtn
unfolding fshrtn
fshrtn_keeps b args m w h = search (keeps_read, keeps_write, writes_read, writes_then_set_v, writes_set_a, sum_fits) depth 24

getlg_keeps : KeepsMemory getlg
unfolding getlg
getlg_keeps b args m w h = search (keeps_read, keeps_write, writes_set_descr, fits_value_alone) depth 24

getspc_keeps : KeepsMemory getspc
unfolding getspc
getspc_keeps b args m w h = search (keeps_read, keeps_write, writes_set_spec, spec_fits) depth 24

putlg_keeps : KeepsMemory putlg
unfolding putlg
putlg_keeps b args m w h = search (keeps_read, keeps_write, writes_set_v) depth 24

putspc_keeps : KeepsMemory putspc
unfolding putspc
putspc_keeps b args m w h = search (keeps_read, keeps_write, writes_set_spec, spec_fits) depth 24

remsp_keeps : KeepsMemory remsp
unfolding remsp
remsp_keeps b args m w h = search (keeps_read, keeps_write, writes_set_spec, moved_fits) depth 24

setlc_keeps : KeepsMemory setlc
unfolding setlc
setlc_keeps b args m w h = search (keeps_read, keeps_write, writes_set_v) depth 24

setsp_keeps : KeepsMemory setsp
unfolding setsp
setsp_keeps b args m w h = search (keeps_read, keeps_write, writes_set_spec, spec_fits) depth 24

shortn_keeps : KeepsMemory shortn
unfolding shortn
shortn_keeps b args m w h = search (keeps_read, keeps_write, writes_set_v) depth 24

subsp_keeps : KeepsMemory subsp
unfolding subsp
subsp_keeps b args m w h = search (keeps_read, keeps_if, keeps_here, keeps_leads, goto_leads, writes_set_spec, cut_fits) depth 30

locsp_keeps : KeepsMemory locsp
unfolding locsp
locsp_keeps b args m w h = search (keeps_read, keeps_if, keeps_write, writes_set_v, writes_set_spec, titled_fits) depth 24

getlth_keeps : KeepsMemory getlth
unfolding getlth
getlth_keeps b args m w h = search (keeps_read, keeps_write, writes_set_descr, wrapped_fits) depth 24

sized_block_keeps : (flag : ℕ) → KeepsMemory (sized_block flag)
unfolding sized_block
sized_block_keeps flag b args m w h = search (keeps_read, keeps_write, writes_set_descr, wrapped_fits) depth 24

bksize_keeps : KeepsOnSite bksize
bksize_keeps site s h = sized_block_keeps site.parameters.settings.string_title_flag (bounds_of site.program site.parameters.settings) site.args s.memory h.args h.sound.memory

pub spec_lawful : (name : Macro) → IsLawful name (spec_clause name) (spec_visits name)
unfolding spec_clause Leaves KeepsTapes
spec_lawful Addlg = on_memory_lawful Addlg addlg refl addlg_keeps (λ site s h. omega arith)
spec_lawful Bksize = on_site_lawful Bksize bksize refl bksize_keeps (λ site s h. omega arith)
spec_lawful Fshrtn = on_memory_lawful Fshrtn fshrtn refl fshrtn_keeps (λ site s h. omega arith)
spec_lawful Getlg = on_memory_lawful Getlg getlg refl getlg_keeps (λ site s h. omega arith)
spec_lawful Getlth = on_memory_lawful Getlth getlth refl getlth_keeps (λ site s h. omega arith)
spec_lawful Getspc = on_memory_lawful Getspc getspc refl getspc_keeps (λ site s h. omega arith)
spec_lawful Locsp = on_memory_lawful Locsp locsp refl locsp_keeps (λ site s h. omega arith)
spec_lawful Putlg = on_memory_lawful Putlg putlg refl putlg_keeps (λ site s h. omega arith)
spec_lawful Putspc = on_memory_lawful Putspc putspc refl putspc_keeps (λ site s h. omega arith)
spec_lawful Remsp = on_memory_lawful Remsp remsp refl remsp_keeps (λ site s h. omega arith)
spec_lawful Setlc = on_memory_lawful Setlc setlc refl setlc_keeps (λ site s h. omega arith)
spec_lawful Setsp = on_memory_lawful Setsp setsp refl setsp_keeps (λ site s h. omega arith)
spec_lawful Shortn = on_memory_lawful Shortn shortn refl shortn_keeps (λ site s h. omega arith)
spec_lawful Subsp = on_memory_lawful Subsp subsp refl subsp_keeps (λ site s h. omega arith)
spec_lawful name = few_lawful name (λ site s h. tt) (λ site s h. tt) (λ site s h. omega arith)
