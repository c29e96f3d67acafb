-- The macros of descriptors that are expanded so far.
use Rattle.std.specs.Prelude.{Bool, true, false}
use Rattle.sil_macros.specs.declared.names.Macro.{Macro}
use Rattle.sil_macros.specs.declared.names.Macro.TheVariants.{Adjust, Decra, Getac, Getd, Getdc, Getsiz, Incra, Incrv, Mova, Movd, Movdic, Movv, Putac, Putd, Putdc, Putvc, Resetf, Rsetfi, Setac, Setav, Setf, Setfi, Setsiz, Setva, Setvc}

abbrev pub is_descr : Macro → Bool
is_descr Adjust = true
is_descr Decra = true
is_descr Getac = true
is_descr Getd = true
is_descr Getdc = true
is_descr Getsiz = true
is_descr Incra = true
is_descr Incrv = true
is_descr Mova = true
is_descr Movd = true
is_descr Movdic = true
is_descr Movv = true
is_descr Putac = true
is_descr Putd = true
is_descr Putdc = true
is_descr Putvc = true
is_descr Resetf = true
is_descr Rsetfi = true
is_descr Setac = true
is_descr Setav = true
is_descr Setf = true
is_descr Setfi = true
is_descr Setsiz = true
is_descr Setva = true
is_descr Setvc = true
is_descr _ = false
