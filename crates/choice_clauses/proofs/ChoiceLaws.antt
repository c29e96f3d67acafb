-- The laws of the macros that compare and those on integers.
use Rattle.std.proofs.Common.{refl, arith}
use Rattle.sil_macros.specs.declared.names.Macro.TheVariants.{Acomp, Acompc, Aeql, Aeqlc, Aeqlic, Chkval, Deql, Divide, Lcomp, Leqlc, Mnsint, Mult, Multc, Subtrt, Sum, Testf, Testfi, Vcmpic, Veql, Veqlc}
use Rattle.sil_macros.specs.declared.names.Macro.{Macro}
use Rattle.sil_model.specs.UnitMacros.{KeepsTapes}
use Rattle.sil_model.proofs.Keeps.{fits_descr_at, keeps_here, keeps_read, keeps_write, writes_set_descr}
use Rattle.sil_model.proofs.Operands.{fits_product_alone, goto_leads, range_fits}
use Rattle.sil_model.proofs.Lawful.{IsLawful, KeepsMemory, few_lawful, on_memory_lawful}
use Rattle.sil_model.proofs.Leaves.{Leaves}
use Rattle.choice_clauses.specs.ComparisonClauses.{acomp, acompc, aeql, aeqlc, aeqlic, chkval, deql, lcomp, leqlc, testf, testfi, vcmpic, veql, veqlc}
use Rattle.choice_clauses.specs.IntegerClauses.{divide, mnsint, mult, multc, subtrt, sum}
use Rattle.choice_clauses.specs.ChoiceTable.{choice_clause, choice_visits}
use Rattle.choice_clauses.proofs.ChoiceOperands.{flags_lead, keeps_deliver, order_leads, quotient_fits, sameness_leads}

acomp_keeps : KeepsMemory acomp
unfolding acomp
acomp_keeps b args m w h = search (keeps_read, keeps_here, goto_leads, order_leads) depth 24

acompc_keeps : KeepsMemory acompc
unfolding acompc
acompc_keeps b args m w h = search (keeps_read, keeps_here, goto_leads, order_leads) depth 24

aeql_keeps : KeepsMemory aeql
unfolding aeql
aeql_keeps b args m w h = search (keeps_read, keeps_here, goto_leads, order_leads) depth 24

aeqlc_keeps : KeepsMemory aeqlc
unfolding aeqlc
aeqlc_keeps b args m w h = search (keeps_read, keeps_here, goto_leads, order_leads) depth 24

aeqlic_keeps : KeepsMemory aeqlic
unfolding aeqlic
aeqlic_keeps b args m w h = search (keeps_read, keeps_here, goto_leads, order_leads) depth 24

chkval_keeps : KeepsMemory chkval
unfolding chkval
chkval_keeps b args m w h = search (keeps_read, keeps_here, goto_leads, order_leads) depth 24

deql_keeps : KeepsMemory deql
unfolding deql
deql_keeps b args m w h = search (keeps_read, keeps_here, goto_leads, order_leads, sameness_leads) depth 24

lcomp_keeps : KeepsMemory lcomp
unfolding lcomp
lcomp_keeps b args m w h = search (keeps_read, keeps_here, goto_leads, order_leads) depth 24

leqlc_keeps : KeepsMemory leqlc
unfolding leqlc
leqlc_keeps b args m w h = search (keeps_read, keeps_here, goto_leads, order_leads) depth 24

testf_keeps : KeepsMemory testf
unfolding testf
testf_keeps b args m w h = search (keeps_read, keeps_here, goto_leads, flags_lead) depth 24

testfi_keeps : KeepsMemory testfi
unfolding testfi
testfi_keeps b args m w h = search (keeps_read, keeps_here, goto_leads, flags_lead) depth 24

vcmpic_keeps : KeepsMemory vcmpic
unfolding vcmpic
vcmpic_keeps b args m w h = search (keeps_read, keeps_here, goto_leads, order_leads) depth 24

veql_keeps : KeepsMemory veql
unfolding veql
veql_keeps b args m w h = search (keeps_read, keeps_here, goto_leads, order_leads) depth 24

veqlc_keeps : KeepsMemory veqlc
unfolding veqlc
veqlc_keeps b args m w h = search (keeps_read, keeps_here, goto_leads, order_leads) depth 24

divide_keeps : KeepsMemory divide
unfolding divide
divide_keeps b args m w h = search (keeps_read, keeps_deliver, goto_leads, range_fits, fits_descr_at, quotient_fits) depth 24

mnsint_keeps : KeepsMemory mnsint
unfolding mnsint
mnsint_keeps b args m w h = search (keeps_read, keeps_deliver, goto_leads, range_fits, fits_descr_at) depth 24

mult_keeps : KeepsMemory mult
unfolding mult
mult_keeps b args m w h = search (keeps_read, keeps_deliver, goto_leads, range_fits, fits_descr_at) depth 24

multc_keeps : KeepsMemory multc
unfolding multc
multc_keeps b args m w h = search (keeps_read, keeps_write, writes_set_descr, fits_product_alone) depth 24

subtrt_keeps : KeepsMemory subtrt
unfolding subtrt
subtrt_keeps b args m w h = search (keeps_read, keeps_deliver, goto_leads, range_fits, fits_descr_at) depth 24

sum_keeps : KeepsMemory sum
unfolding sum
sum_keeps b args m w h = search (keeps_read, keeps_deliver, goto_leads, range_fits, fits_descr_at) depth 24

pub choice_lawful : (name : Macro) → IsLawful name (choice_clause name) (choice_visits name)
unfolding choice_clause Leaves KeepsTapes
choice_lawful Acomp = on_memory_lawful Acomp acomp refl acomp_keeps (λ site s h. omega arith)
choice_lawful Acompc = on_memory_lawful Acompc acompc refl acompc_keeps (λ site s h. omega arith)
choice_lawful Aeql = on_memory_lawful Aeql aeql refl aeql_keeps (λ site s h. omega arith)
choice_lawful Aeqlc = on_memory_lawful Aeqlc aeqlc refl aeqlc_keeps (λ site s h. omega arith)
choice_lawful Aeqlic = on_memory_lawful Aeqlic aeqlic refl aeqlic_keeps (λ site s h. omega arith)
choice_lawful Chkval = on_memory_lawful Chkval chkval refl chkval_keeps (λ site s h. omega arith)
choice_lawful Deql = on_memory_lawful Deql deql refl deql_keeps (λ site s h. omega arith)
choice_lawful Divide = on_memory_lawful Divide divide refl divide_keeps (λ site s h. omega arith)
choice_lawful Lcomp = on_memory_lawful Lcomp lcomp refl lcomp_keeps (λ site s h. omega arith)
choice_lawful Leqlc = on_memory_lawful Leqlc leqlc refl leqlc_keeps (λ site s h. omega arith)
choice_lawful Mnsint = on_memory_lawful Mnsint mnsint refl mnsint_keeps (λ site s h. omega arith)
choice_lawful Mult = on_memory_lawful Mult mult refl mult_keeps (λ site s h. omega arith)
choice_lawful Multc = on_memory_lawful Multc multc refl multc_keeps (λ site s h. omega arith)
choice_lawful Subtrt = on_memory_lawful Subtrt subtrt refl subtrt_keeps (λ site s h. omega arith)
choice_lawful Sum = on_memory_lawful Sum sum refl sum_keeps (λ site s h. omega arith)
choice_lawful Testf = on_memory_lawful Testf testf refl testf_keeps (λ site s h. omega arith)
choice_lawful Testfi = on_memory_lawful Testfi testfi refl testfi_keeps (λ site s h. omega arith)
choice_lawful Vcmpic = on_memory_lawful Vcmpic vcmpic refl vcmpic_keeps (λ site s h. omega arith)
choice_lawful Veql = on_memory_lawful Veql veql refl veql_keeps (λ site s h. omega arith)
choice_lawful Veqlc = on_memory_lawful Veqlc veqlc refl veqlc_keeps (λ site s h. omega arith)
choice_lawful name = few_lawful name (λ site s h. tt) (λ site s h. tt) (λ site s h. omega arith)
