-- The laws of the macros on descriptors.
use Rattle.std.proofs.Common.{refl, arith}
use Rattle.sil_macros.specs.declared.names.Macro.TheVariants.{Adjust, Decra, Getac, Getd, Getdc, Getsiz, Incra, Incrv, Mova, Movd, Movdic, Movv, Putac, Putd, Putdc, Putvc, Resetf, Rsetfi, Setac, Setav, Setf, Setfi, Setsiz, Setva, Setvc}
use Rattle.sil_macros.specs.declared.names.Macro.{Macro}
use Rattle.sil_model.specs.UnitMacros.{KeepsTapes}
use Rattle.sil_model.proofs.Keeps.{fits_descr_at, keeps_read, keeps_write, sum_fits, writes_set_a, writes_set_descr, writes_set_f, writes_set_v}
use Rattle.sil_model.proofs.Operands.{difference_fits, fits_a_at, fits_value_alone, number_fits}
use Rattle.sil_model.proofs.Lawful.{IsLawful, KeepsMemory, few_lawful, on_memory_lawful}
use Rattle.sil_model.proofs.Leaves.{Leaves}
use Rattle.descr_clauses.specs.DescriptorClauses.{adjust, decra, getac, getd, getdc, getsiz, incra, incrv, mova, movd, movdic, movv, putac, putd, putdc, putvc, resetf, rsetfi, setac, setav, setf, setfi, setsiz, setva, setvc}
use Rattle.descr_clauses.specs.DescrTable.{descr_clause, descr_visits}

adjust_keeps : KeepsMemory adjust
unfolding adjust
adjust_keeps b args m w h = search (keeps_read, keeps_write, writes_set_a, sum_fits) depth 24

decra_keeps : KeepsMemory decra
unfolding decra
decra_keeps b args m w h = search (keeps_read, keeps_write, writes_set_a, difference_fits) depth 24

getac_keeps : KeepsMemory getac
unfolding getac
getac_keeps b args m w h = search (keeps_read, keeps_write, writes_set_a, fits_a_at) depth 24

getd_keeps : KeepsMemory getd
unfolding getd
getd_keeps b args m w h = search (keeps_read, keeps_write, writes_set_descr, fits_descr_at) depth 24

getdc_keeps : KeepsMemory getdc
unfolding getdc
getdc_keeps b args m w h = search (keeps_read, keeps_write, writes_set_descr, fits_descr_at) depth 24

getsiz_keeps : KeepsMemory getsiz
unfolding getsiz
getsiz_keeps b args m w h = search (keeps_read, keeps_write, writes_set_descr, fits_descr_at, fits_value_alone) depth 24

incra_keeps : KeepsMemory incra
unfolding incra
incra_keeps b args m w h = search (keeps_read, keeps_write, writes_set_a, sum_fits) depth 24

incrv_keeps : KeepsMemory incrv
unfolding incrv
incrv_keeps b args m w h = search (keeps_read, keeps_write, writes_set_v) depth 24

mova_keeps : KeepsMemory mova
unfolding mova
mova_keeps b args m w h = search (keeps_read, keeps_write, writes_set_a, fits_a_at) depth 24

movd_keeps : KeepsMemory movd
unfolding movd
movd_keeps b args m w h = search (keeps_read, keeps_write, writes_set_descr, fits_descr_at) depth 24

movdic_keeps : KeepsMemory movdic
unfolding movdic
movdic_keeps b args m w h = search (keeps_read, keeps_write, writes_set_descr, fits_descr_at) depth 24

movv_keeps : KeepsMemory movv
unfolding movv
movv_keeps b args m w h = search (keeps_read, keeps_write, writes_set_v) depth 24

putac_keeps : KeepsMemory putac
unfolding putac
putac_keeps b args m w h = search (keeps_read, keeps_write, writes_set_a, fits_a_at) depth 24

putd_keeps : KeepsMemory putd
unfolding putd
putd_keeps b args m w h = search (keeps_read, keeps_write, writes_set_descr, fits_descr_at) depth 24

putdc_keeps : KeepsMemory putdc
unfolding putdc
putdc_keeps b args m w h = search (keeps_read, keeps_write, writes_set_descr, fits_descr_at) depth 24

putvc_keeps : KeepsMemory putvc
unfolding putvc
putvc_keeps b args m w h = search (keeps_read, keeps_write, writes_set_v) depth 24

resetf_keeps : KeepsMemory resetf
unfolding resetf
resetf_keeps b args m w h = search (keeps_read, keeps_write, writes_set_f) depth 24

rsetfi_keeps : KeepsMemory rsetfi
unfolding rsetfi
rsetfi_keeps b args m w h = search (keeps_read, keeps_write, writes_set_f) depth 24

setac_keeps : KeepsMemory setac
unfolding setac
setac_keeps b args m w h = search (keeps_read, keeps_write, writes_set_a, number_fits) depth 24

setav_keeps : KeepsMemory setav
unfolding setav
setav_keeps b args m w h = search (keeps_read, keeps_write, writes_set_descr, fits_descr_at, fits_value_alone) depth 24

setf_keeps : KeepsMemory setf
unfolding setf
setf_keeps b args m w h = search (keeps_read, keeps_write, writes_set_f) depth 24

setfi_keeps : KeepsMemory setfi
unfolding setfi
setfi_keeps b args m w h = search (keeps_read, keeps_write, writes_set_f) depth 24

setsiz_keeps : KeepsMemory setsiz
unfolding setsiz
setsiz_keeps b args m w h = search (keeps_read, keeps_write, writes_set_v) depth 24

setva_keeps : KeepsMemory setva
unfolding setva
setva_keeps b args m w h = search (keeps_read, keeps_write, writes_set_v) depth 24

setvc_keeps : KeepsMemory setvc
unfolding setvc
setvc_keeps b args m w h = search (keeps_read, keeps_write, writes_set_v) depth 24

pub descr_lawful : (name : Macro) → IsLawful name (descr_clause name) (descr_visits name)
unfolding descr_clause Leaves KeepsTapes
descr_lawful Adjust = on_memory_lawful Adjust adjust refl adjust_keeps (λ site s h. omega arith)
descr_lawful Decra = on_memory_lawful Decra decra refl decra_keeps (λ site s h. omega arith)
descr_lawful Getac = on_memory_lawful Getac getac refl getac_keeps (λ site s h. omega arith)
descr_lawful Getd = on_memory_lawful Getd getd refl getd_keeps (λ site s h. omega arith)
descr_lawful Getdc = on_memory_lawful Getdc getdc refl getdc_keeps (λ site s h. omega arith)
descr_lawful Getsiz = on_memory_lawful Getsiz getsiz refl getsiz_keeps (λ site s h. omega arith)
descr_lawful Incra = on_memory_lawful Incra incra refl incra_keeps (λ site s h. omega arith)
descr_lawful Incrv = on_memory_lawful Incrv incrv refl incrv_keeps (λ site s h. omega arith)
descr_lawful Mova = on_memory_lawful Mova mova refl mova_keeps (λ site s h. omega arith)
descr_lawful Movd = on_memory_lawful Movd movd refl movd_keeps (λ site s h. omega arith)
descr_lawful Movdic = on_memory_lawful Movdic movdic refl movdic_keeps (λ site s h. omega arith)
descr_lawful Movv = on_memory_lawful Movv movv refl movv_keeps (λ site s h. omega arith)
descr_lawful Putac = on_memory_lawful Putac putac refl putac_keeps (λ site s h. omega arith)
descr_lawful Putd = on_memory_lawful Putd putd refl putd_keeps (λ site s h. omega arith)
descr_lawful Putdc = on_memory_lawful Putdc putdc refl putdc_keeps (λ site s h. omega arith)
descr_lawful Putvc = on_memory_lawful Putvc putvc refl putvc_keeps (λ site s h. omega arith)
descr_lawful Resetf = on_memory_lawful Resetf resetf refl resetf_keeps (λ site s h. omega arith)
descr_lawful Rsetfi = on_memory_lawful Rsetfi rsetfi refl rsetfi_keeps (λ site s h. omega arith)
descr_lawful Setac = on_memory_lawful Setac setac refl setac_keeps (λ site s h. omega arith)
descr_lawful Setav = on_memory_lawful Setav setav refl setav_keeps (λ site s h. omega arith)
descr_lawful Setf = on_memory_lawful Setf setf refl setf_keeps (λ site s h. omega arith)
descr_lawful Setfi = on_memory_lawful Setfi setfi refl setfi_keeps (λ site s h. omega arith)
descr_lawful Setsiz = on_memory_lawful Setsiz setsiz refl setsiz_keeps (λ site s h. omega arith)
descr_lawful Setva = on_memory_lawful Setva setva refl setva_keeps (λ site s h. omega arith)
descr_lawful Setvc = on_memory_lawful Setvc setvc refl setvc_keeps (λ site s h. omega arith)
descr_lawful name = few_lawful name (λ site s h. tt) (λ site s h. tt) (λ site s h. omega arith)
