-- Legal parameters are those without a fault.
use Rattle.std.proofs.Common.{◌≡◌, ℕ, ◌*◌, ◌≤◌, Bool, true, false, not, ◌&&◌, ◌||◌, ◌==◌, List, [], ◌∷◌, length, Option, Some, None, refl, sym, arith}
use Rattle.std.specs.Prelude.{All, nat_le, codes}
use Rattle.std.specs.List.{list_any, list_all}
use Rattle.std.proofs.lemmas.Bool.{leb-true, le-leb, eqb-true, eqb-false, eq-eqb, ne_eqb, not-true}
use Rattle.std.proofs.lemmas.List.Sums.{AllPass-from_list_all, list_all-from_AllPass}
use Rattle.sil_base.specs.declared.line.Fault.{Fault}
use Rattle.layout_params.specs.Sizes.{Sizes, is_legal, descr_fits, field_fits, f_width_fits, v_width_fits, widths_fit, fields_fit, fields_apart}
use Rattle.layout_params.specs.Parameters.{Settings, Parameters, is_bit_below, AreBits, IsPrinted, AreLegal}
use Rattle.layout_params.specs.ParameterFaults.{or_next, unless_kept, descr_fault, a_fault, f_fault, v_fault, shared_fault, layout_fault, is_new_flag, flag_fault, is_within, count_fault, unit_fault, is_date, date_fault, value_fault}

-- ---- tests

pub both_true : (a b : Bool) → (a && b) ≡ true → (a ≡ true) × (b ≡ true)
both_true a b h = grind arith

true_both : (a b : Bool) → a ≡ true → b ≡ true → (a && b) ≡ true
true_both a b p q = rw (p, q) refl

neither : (a b : Bool) → (a || b) ≡ false → (a ≡ false) × (b ≡ false)
neither a b h = grind arith

false_turned : (a b : ℕ) → (a == b) ≡ false → (b == a) ≡ false
false_turned a b h = ne_eqb b a (λ e. eqb-false a b h (sym e))

within_true : (least most n : ℕ) → is_within least most n ≡ true → (least ≤ n) × (n ≤ most)
within_true least most n h =
    let p = both_true (nat_le least n) (nat_le n most) h in
    (leb-true least n p.0, leb-true n most p.1)

true_within : (least most n : ℕ) → (least ≤ n) × (n ≤ most) → is_within least most n ≡ true
true_within least most n h = true_both (nat_le least n) (nat_le n most) (le-leb least n h.0) (le-leb n most h.1)

-- ---- faults

no_fault : (kept : Bool) (rule line : ℕ) → unless_kept kept rule line ≡ None → kept ≡ true
no_fault true rule line h = refl
no_fault false rule line h = cc

neither_fault : (x y : Option Fault) → or_next x y ≡ None → (x ≡ None) × (y ≡ None)
neither_fault None y h = (refl, h)
neither_fault (Some f) y h = cc

no_faults : (x y : Option Fault) → x ≡ None → y ≡ None → or_next x y ≡ None
no_faults x y p q = rw (p, q) refl

kept_rule : (kept : Bool) (rule line : ℕ) → kept ≡ true → unless_kept kept rule line ≡ None
kept_rule kept rule line h = rw h refl

-- ---- the layout

pub record KeepsLayout (s : Sizes) : Type 0 where
  pub descr : descr_fits s.descr ≡ true
  pub a : field_fits s.descr s.a_at 8 ≡ true
  pub f_width : f_width_fits s.f_len ≡ true
  pub f : field_fits s.descr s.f_at s.f_len ≡ true
  pub v_width : v_width_fits s.v_len ≡ true
  pub v : field_fits s.descr s.v_at s.v_len ≡ true
  pub apart : fields_apart s ≡ true

pub layout_kept : (line : List ℕ → ℕ) (s : Sizes) → layout_fault line s ≡ None → KeepsLayout s
layout_kept line s h =
    let p = neither_fault (descr_fault line s) (or_next (a_fault line s) (or_next (f_fault line s) (or_next (v_fault line s) (shared_fault line s)))) h in
    let q = neither_fault (a_fault line s) (or_next (f_fault line s) (or_next (v_fault line s) (shared_fault line s))) p.1 in
    let r = neither_fault (f_fault line s) (or_next (v_fault line s) (shared_fault line s)) q.1 in
    let t = neither_fault (v_fault line s) (shared_fault line s) r.1 in
    let f = neither_fault (unless_kept (f_width_fits s.f_len) 6 (line (codes "FLEN"))) (unless_kept (field_fits s.descr s.f_at s.f_len) 6 (line (codes "FOFF"))) r.0 in
    let v = neither_fault (unless_kept (v_width_fits s.v_len) 7 (line (codes "VLEN"))) (unless_kept (field_fits s.descr s.v_at s.v_len) 7 (line (codes "VOFF"))) t.0 in
    record {
      descr = no_fault (descr_fits s.descr) 4 (line (codes "DESCR")) p.0;
      a = no_fault (field_fits s.descr s.a_at 8) 5 (line (codes "AOFF")) q.0;
      f_width = no_fault (f_width_fits s.f_len) 6 (line (codes "FLEN")) f.0;
      f = no_fault (field_fits s.descr s.f_at s.f_len) 6 (line (codes "FOFF")) f.1;
      v_width = no_fault (v_width_fits s.v_len) 7 (line (codes "VLEN")) v.0;
      v = no_fault (field_fits s.descr s.v_at s.v_len) 7 (line (codes "VOFF")) v.1;
      apart = no_fault (fields_apart s) 8 (line (codes "VOFF")) t.1;
    }

legal_kept : (s : Sizes) → KeepsLayout s → is_legal s ≡ true
legal_kept s k =
    let widths : widths_fit s ≡ true = rw (k.descr, k.f_width, k.v_width) refl in
    let fields : fields_fit s ≡ true = rw (k.a, k.f, k.v) refl in
    true_both (widths_fit s && fields_fit s) (fields_apart s) (true_both (widths_fit s) (fields_fit s) widths fields) k.apart

kept_legal : (s : Sizes) → is_legal s ≡ true → KeepsLayout s
kept_legal s h =
    let p = both_true (widths_fit s && fields_fit s) (fields_apart s) h in
    let q = both_true (widths_fit s) (fields_fit s) p.0 in
    let w = both_true (descr_fits s.descr && f_width_fits s.f_len) (v_width_fits s.v_len) q.0 in
    let d = both_true (descr_fits s.descr) (f_width_fits s.f_len) w.0 in
    let f = both_true (field_fits s.descr s.a_at 8 && field_fits s.descr s.f_at s.f_len) (field_fits s.descr s.v_at s.v_len) q.1 in
    let a = both_true (field_fits s.descr s.a_at 8) (field_fits s.descr s.f_at s.f_len) f.0 in
    record { descr = d.0; a = a.0; f_width = d.1; f = a.1; v_width = w.1; v = f.1; apart = p.1 }

no_layout_fault : (line : List ℕ → ℕ) (s : Sizes) → KeepsLayout s → layout_fault line s ≡ None
no_layout_fault line s k = rw (k.descr, k.a, k.f_width, k.f, k.v_width, k.v, k.apart) refl

-- ---- the flags

abbrev Apart : ℕ → ℕ → Type 0
Apart a b = (a == b) ≡ false

record KeepsFlags (w a b c d e : ℕ) : Type 0 where
  pub bit_a : is_bit_below w a ≡ true
  pub bit_b : is_bit_below w b ≡ true
  pub bit_c : is_bit_below w c ≡ true
  pub bit_d : is_bit_below w d ≡ true
  pub bit_e : is_bit_below w e ≡ true
  pub a_b : Apart a b
  pub a_c : Apart a c
  pub a_d : Apart a d
  pub a_e : Apart a e
  pub b_c : Apart b c
  pub b_d : Apart b d
  pub b_e : Apart b e
  pub c_d : Apart c d
  pub c_e : Apart c e
  pub d_e : Apart d e

new_flag : (w : ℕ) (before : List ℕ) (n : ℕ) → is_new_flag w before n ≡ true → (is_bit_below w n ≡ true) × (list_any (λ other. other == n) before ≡ false)
new_flag w before n h =
    let p = both_true (is_bit_below w n) (not (list_any (λ other. other == n) before)) h in
    (p.0, not-true (list_any (λ other. other == n) before) p.1)

flags_new : (w a b c d e : ℕ) → is_new_flag w [] a ≡ true → is_new_flag w (a ∷ []) b ≡ true → is_new_flag w (a ∷ b ∷ []) c ≡ true → is_new_flag w (a ∷ b ∷ c ∷ []) d ≡ true → is_new_flag w (a ∷ b ∷ c ∷ d ∷ []) e ≡ true → KeepsFlags w a b c d e
flags_new w a b c d e p q r s t =
    let b1 = new_flag w (a ∷ []) b q in
    let c1 = new_flag w (a ∷ b ∷ []) c r in
    let d1 = new_flag w (a ∷ b ∷ c ∷ []) d s in
    let e1 = new_flag w (a ∷ b ∷ c ∷ d ∷ []) e t in
    let b2 = neither (a == b) false b1.1 in
    let c2 = neither (a == c) ((b == c) || false) c1.1 in
    let c3 = neither (b == c) false c2.1 in
    let d2 = neither (a == d) ((b == d) || ((c == d) || false)) d1.1 in
    let d3 = neither (b == d) ((c == d) || false) d2.1 in
    let d4 = neither (c == d) false d3.1 in
    let e2 = neither (a == e) ((b == e) || ((c == e) || ((d == e) || false))) e1.1 in
    let e3 = neither (b == e) ((c == e) || ((d == e) || false)) e2.1 in
    let e4 = neither (c == e) ((d == e) || false) e3.1 in
    let e5 = neither (d == e) false e4.1 in
    record {
      bit_a = (new_flag w [] a p).0;
      bit_b = b1.0;
      bit_c = c1.0;
      bit_d = d1.0;
      bit_e = e1.0;
      a_b = b2.0;
      a_c = c2.0;
      a_d = d2.0;
      a_e = e2.0;
      b_c = c3.0;
      b_d = d3.0;
      b_e = e3.0;
      c_d = d4.0;
      c_e = e4.0;
      d_e = e5.0;
    }

bits_kept : (w a b c d e : ℕ) → KeepsFlags w a b c d e → AreBits w (a ∷ b ∷ c ∷ d ∷ e ∷ [])
bits_kept w a b c d e k = (
  k.bit_a,
  rw (false_turned a b k.a_b, false_turned a c k.a_c, false_turned a d k.a_d, false_turned a e k.a_e) refl,
  (
    k.bit_b,
    rw (false_turned b c k.b_c, false_turned b d k.b_d, false_turned b e k.b_e) refl,
    (
      k.bit_c,
      rw (false_turned c d k.c_d, false_turned c e k.c_e) refl,
      (
        k.bit_d,
        rw (false_turned d e k.d_e) refl,
        (k.bit_e, refl, tt),
      ),
    ),
  ),
)

kept_bits : (w a b c d e : ℕ) → AreBits w (a ∷ b ∷ c ∷ d ∷ e ∷ []) → KeepsFlags w a b c d e
kept_bits w a b c d e h =
    let hb = h.2 in
    let hc = hb.2 in
    let hd = hc.2 in
    let he = hd.2 in
    let a1 = neither (b == a) ((c == a) || ((d == a) || ((e == a) || false))) h.1 in
    let a2 = neither (c == a) ((d == a) || ((e == a) || false)) a1.1 in
    let a3 = neither (d == a) ((e == a) || false) a2.1 in
    let a4 = neither (e == a) false a3.1 in
    let b1 = neither (c == b) ((d == b) || ((e == b) || false)) hb.1 in
    let b2 = neither (d == b) ((e == b) || false) b1.1 in
    let b3 = neither (e == b) false b2.1 in
    let c1 = neither (d == c) ((e == c) || false) hc.1 in
    let c2 = neither (e == c) false c1.1 in
    let d1 = neither (e == d) false hd.1 in
    record {
      bit_a = h.0;
      bit_b = hb.0;
      bit_c = hc.0;
      bit_d = hd.0;
      bit_e = he.0;
      a_b = false_turned b a a1.0;
      a_c = false_turned c a a2.0;
      a_d = false_turned d a a3.0;
      a_e = false_turned e a a4.0;
      b_c = false_turned c b b1.0;
      b_d = false_turned d b b2.0;
      b_e = false_turned e b b3.0;
      c_d = false_turned d c c1.0;
      c_e = false_turned e c c2.0;
      d_e = false_turned e d d1.0;
    }

record FlagsAreNew (w a b c d e : ℕ) : Type 0 where
  pub new_a : is_new_flag w [] a ≡ true
  pub new_b : is_new_flag w (a ∷ []) b ≡ true
  pub new_c : is_new_flag w (a ∷ b ∷ []) c ≡ true
  pub new_d : is_new_flag w (a ∷ b ∷ c ∷ []) d ≡ true
  pub new_e : is_new_flag w (a ∷ b ∷ c ∷ d ∷ []) e ≡ true

new_flags : (w a b c d e : ℕ) → KeepsFlags w a b c d e → FlagsAreNew w a b c d e
new_flags w a b c d e k = record {
  new_a = rw k.bit_a refl;
  new_b = rw (k.bit_b, k.a_b) refl;
  new_c = rw (k.bit_c, k.a_c, k.b_c) refl;
  new_d = rw (k.bit_d, k.a_d, k.b_d, k.c_d) refl;
  new_e = rw (k.bit_e, k.a_e, k.b_e, k.c_e, k.d_e) refl;
}

abbrev flag_bits : Settings → ℕ
flag_bits s = 8 * s.sizes.f_len

flags_kept : (line : List ℕ → ℕ) (s : Settings) → flag_fault line s ≡ None → FlagsAreNew (flag_bits s) s.function_flag s.mark_flag s.pointer_flag s.string_title_flag s.title_flag
flags_kept line s h =
    let w = flag_bits s in
    let a = s.function_flag in
    let b = s.mark_flag in
    let c = s.pointer_flag in
    let d = s.string_title_flag in
    let e = s.title_flag in
    let fa = unless_kept (is_new_flag w [] a) 9 (line (codes "FNC")) in
    let fb = unless_kept (is_new_flag w (a ∷ []) b) 9 (line (codes "MARK")) in
    let fc = unless_kept (is_new_flag w (a ∷ b ∷ []) c) 9 (line (codes "PTR")) in
    let fd = unless_kept (is_new_flag w (a ∷ b ∷ c ∷ []) d) 9 (line (codes "STTL")) in
    let fe = unless_kept (is_new_flag w (a ∷ b ∷ c ∷ d ∷ []) e) 9 (line (codes "TTL")) in
    let p = neither_fault fa (or_next fb (or_next fc (or_next fd fe))) h in
    let q = neither_fault fb (or_next fc (or_next fd fe)) p.1 in
    let r = neither_fault fc (or_next fd fe) q.1 in
    let t = neither_fault fd fe r.1 in
    record {
      new_a = no_fault (is_new_flag w [] a) 9 (line (codes "FNC")) p.0;
      new_b = no_fault (is_new_flag w (a ∷ []) b) 9 (line (codes "MARK")) q.0;
      new_c = no_fault (is_new_flag w (a ∷ b ∷ []) c) 9 (line (codes "PTR")) r.0;
      new_d = no_fault (is_new_flag w (a ∷ b ∷ c ∷ []) d) 9 (line (codes "STTL")) t.0;
      new_e = no_fault (is_new_flag w (a ∷ b ∷ c ∷ d ∷ []) e) 9 (line (codes "TTL")) t.1;
    }

no_flag_fault : (line : List ℕ → ℕ) (s : Settings) → FlagsAreNew (flag_bits s) s.function_flag s.mark_flag s.pointer_flag s.string_title_flag s.title_flag → flag_fault line s ≡ None
no_flag_fault line s k =
    let w = flag_bits s in
    let a = s.function_flag in
    let b = s.mark_flag in
    let c = s.pointer_flag in
    let d = s.string_title_flag in
    let e = s.title_flag in
    let fa = kept_rule (is_new_flag w [] a) 9 (line (codes "FNC")) k.new_a in
    let fb = kept_rule (is_new_flag w (a ∷ []) b) 9 (line (codes "MARK")) k.new_b in
    let fc = kept_rule (is_new_flag w (a ∷ b ∷ []) c) 9 (line (codes "PTR")) k.new_c in
    let fd = kept_rule (is_new_flag w (a ∷ b ∷ c ∷ []) d) 9 (line (codes "STTL")) k.new_d in
    let fe = kept_rule (is_new_flag w (a ∷ b ∷ c ∷ d ∷ []) e) 9 (line (codes "TTL")) k.new_e in
    no_faults _ _ fa (no_faults _ _ fb (no_faults _ _ fc (no_faults _ _ fd fe)))

-- ---- counts, units and the date

record KeepsCounts (s : Settings) : Type 0 where
  pub stack : is_within 16 65536 s.stack_size ≡ true
  pub dynamic : nat_le s.dynamic_size 900000 ≡ true
  pub buckets : is_within 1 4096 s.bucket_count ≡ true

counts_kept : (line : List ℕ → ℕ) (s : Settings) → count_fault line s ≡ None → KeepsCounts s
counts_kept line s h =
    let stack = unless_kept (is_within 16 65536 s.stack_size) 10 (line (codes "STSIZE")) in
    let dynamic = unless_kept (nat_le s.dynamic_size 900000) 11 (line (codes "DYNSIZ")) in
    let buckets = unless_kept (is_within 1 4096 s.bucket_count) 12 (line (codes "OBSIZ")) in
    let p = neither_fault stack (or_next dynamic buckets) h in
    let q = neither_fault dynamic buckets p.1 in
    record {
      stack = no_fault (is_within 16 65536 s.stack_size) 10 (line (codes "STSIZE")) p.0;
      dynamic = no_fault (nat_le s.dynamic_size 900000) 11 (line (codes "DYNSIZ")) q.0;
      buckets = no_fault (is_within 1 4096 s.bucket_count) 12 (line (codes "OBSIZ")) q.1;
    }

no_count_fault : (line : List ℕ → ℕ) (s : Settings) → KeepsCounts s → count_fault line s ≡ None
no_count_fault line s k =
    no_faults _ _ (kept_rule (is_within 16 65536 s.stack_size) 10 (line (codes "STSIZE")) k.stack)
    (no_faults _ _ (kept_rule (nat_le s.dynamic_size 900000) 11 (line (codes "DYNSIZ")) k.dynamic) (kept_rule (is_within 1 4096 s.bucket_count) 12 (line (codes "OBSIZ")) k.buckets))

record KeepsUnits (p : Parameters) : Type 0 where
  pub input : is_within 1 15 p.input_unit ≡ true
  pub output : is_within 1 15 p.output_unit ≡ true
  pub punch : is_within 1 15 p.punch_unit ≡ true

units_kept : (line : List ℕ → ℕ) (p : Parameters) → unit_fault line p ≡ None → KeepsUnits p
units_kept line p h =
    let input = unless_kept (is_within 1 15 p.input_unit) 13 (line (codes "UNITI")) in
    let output = unless_kept (is_within 1 15 p.output_unit) 13 (line (codes "UNITO")) in
    let punch = unless_kept (is_within 1 15 p.punch_unit) 13 (line (codes "UNITP")) in
    let q = neither_fault input (or_next output punch) h in
    let r = neither_fault output punch q.1 in
    record {
      input = no_fault (is_within 1 15 p.input_unit) 13 (line (codes "UNITI")) q.0;
      output = no_fault (is_within 1 15 p.output_unit) 13 (line (codes "UNITO")) r.0;
      punch = no_fault (is_within 1 15 p.punch_unit) 13 (line (codes "UNITP")) r.1;
    }

no_unit_fault : (line : List ℕ → ℕ) (p : Parameters) → KeepsUnits p → unit_fault line p ≡ None
no_unit_fault line p k =
    no_faults _ _ (kept_rule (is_within 1 15 p.input_unit) 13 (line (codes "UNITI")) k.input)
    (no_faults _ _ (kept_rule (is_within 1 15 p.output_unit) 13 (line (codes "UNITO")) k.output) (kept_rule (is_within 1 15 p.punch_unit) 13 (line (codes "UNITP")) k.punch))

abbrev IsLegalDate : List ℕ → Type 0
IsLegalDate text = (length text ≡ 8) × All IsPrinted text

date_kept : (text : List ℕ) → is_date text ≡ true → IsLegalDate text
date_kept text h =
    let p = both_true (length text == 8) (list_all (is_within 32 126) text) h in
    let all = AllPass-from_list_all (is_within 32 126) text p.1 in
    (eqb-true (length text) 8 p.0, λ k d below. within_true 32 126 _ (all k d below))

kept_date : (text : List ℕ) → IsLegalDate text → is_date text ≡ true
kept_date text h =
    true_both (length text == 8) (list_all (is_within 32 126) text) (eq-eqb (length text) 8 h.0)
    (list_all-from_AllPass (is_within 32 126) text (λ k d below. true_within 32 126 _ (h.1 k d below)))

-- ---- all values

pub faultless_legal : (line : List ℕ → ℕ) (p : Parameters) → value_fault line p ≡ None → AreLegal p
faultless_legal line p h =
    let s = p.settings in
    let a = neither_fault (layout_fault line s.sizes) (or_next (flag_fault line s) (or_next (count_fault line s) (or_next (unit_fault line p) (date_fault line s)))) h in
    let b = neither_fault (flag_fault line s) (or_next (count_fault line s) (or_next (unit_fault line p) (date_fault line s))) a.1 in
    let c = neither_fault (count_fault line s) (or_next (unit_fault line p) (date_fault line s)) b.1 in
    let d = neither_fault (unit_fault line p) (date_fault line s) c.1 in
    let new = flags_kept line s b.0 in
    let counts = counts_kept line s c.0 in
    let units = units_kept line p d.0 in
    let flags = flags_new (flag_bits s) s.function_flag s.mark_flag s.pointer_flag s.string_title_flag s.title_flag new.new_a new.new_b new.new_c new.new_d new.new_e in
    record {
      settings = record {
        layout = legal_kept s.sizes (layout_kept line s.sizes a.0);
        flags = bits_kept (flag_bits s) s.function_flag s.mark_flag s.pointer_flag s.string_title_flag s.title_flag flags;
        stack = within_true 16 65536 s.stack_size counts.stack;
        dynamic = leb-true s.dynamic_size 900000 counts.dynamic;
        buckets = within_true 1 4096 s.bucket_count counts.buckets;
        date = date_kept s.date (no_fault (is_date s.date) 14 (line (codes "DATE")) d.1);
      };
      input = within_true 1 15 p.input_unit units.input;
      output = within_true 1 15 p.output_unit units.output;
      punch = within_true 1 15 p.punch_unit units.punch;
    }

pub legal_faultless : (line : List ℕ → ℕ) (p : Parameters) → AreLegal p → value_fault line p ≡ None
legal_faultless line p h =
    let s = p.settings in
    let flags = kept_bits (flag_bits s) s.function_flag s.mark_flag s.pointer_flag s.string_title_flag s.title_flag h.settings.flags in
    let new = new_flags (flag_bits s) s.function_flag s.mark_flag s.pointer_flag s.string_title_flag s.title_flag flags in
    let counts : KeepsCounts s = record {
      stack = true_within 16 65536 s.stack_size h.settings.stack;
      dynamic = le-leb s.dynamic_size 900000 h.settings.dynamic;
      buckets = true_within 1 4096 s.bucket_count h.settings.buckets;
    } in
    let units : KeepsUnits p = record {
      input = true_within 1 15 p.input_unit h.input;
      output = true_within 1 15 p.output_unit h.output;
      punch = true_within 1 15 p.punch_unit h.punch;
    } in
    no_faults _ _ (no_layout_fault line s.sizes (kept_legal s.sizes h.settings.layout))
    (no_faults _ _ (no_flag_fault line s new)
    (no_faults _ _ (no_count_fault line s counts)
    (no_faults _ _ (no_unit_fault line p units) (kept_rule (is_date s.date) 14 (line (codes "DATE")) (kept_date s.date h.settings.date)))))
