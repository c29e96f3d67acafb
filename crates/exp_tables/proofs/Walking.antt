-- The walk over characters by syntax tables.
use Rattle.std.proofs.Common.{◌≡◌, ℕ, zero, suc, ◌+◌, ◌*◌, ◌/◌, ◌%◌, ◌≤◌, ◌<◌, ◌^◌, List, length, Option, Some, None, Bool, true, false, refl, arith}
use Rattle.std.specs.Prelude.{ℤ, pos, nat_eq}
use Rattle.sil_model.specs.declared.specifier.Specifier.{Specifier}
use Rattle.sil_model.specs.declared.table.Action.{Action}
use Rattle.sil_model.specs.declared.table.Action.TheVariants.{Contin, Goto, Stop, Stopsh, Error}
use Rattle.sil_model.specs.Access.{◌>>=◌, char_at, set_a_at}
use Rattle.sil_model.specs.Arguments.{flow_to}
use Rattle.sil_model.specs.Effects.{MemoryEffect, leads}
use Rattle.sil_model.specs.Integers.{◌⊞◌, wrapped_sum, wrapped_difference}
use Rattle.sil_model.specs.Memory.{Memory, IsMemory}
use Rattle.sil_model.specs.States.{State}
use Rattle.sil_model.specs.WellFormed.{GoesWithin}
use Rattle.sil_micro.specs.declared.op.Op.{Op}
use Rattle.sil_micro.specs.Expands.{Makes}
use Rattle.sil_micro.specs.MicroStates.{Setting, Micro, Registers}
use Rattle.sil_micro.specs.MicroWords.{quotient, remainder}
use Rattle.sil_micro.specs.Pieces.{joined, is_part}
use Rattle.sil_micro.specs.TableWords.{action_number, next_table, put_word, puts}
use Rattle.sil_micro.proofs.Making.{by_option, more, by_way, then_part}
use Rattle.exp_common.specs.Locations.{lead}
use Rattle.exp_common.proofs.Leads.{goes_to}
use Rattle.string_clauses.specs.Walks.{on_turn, visits_after, walk, walk_visits}
use Rattle.string_clauses.proofs.Room.{char_is_byte}
use Rattle.table_clauses.specs.SyntaxClauses.{acted, latest, or_zero, parted, ran_out, stream_turn, streamed}
use Rattle.table_clauses.specs.declared.streams.Halt.{Halt}
use Rattle.table_clauses.specs.declared.streams.Scan.{Scan}
use Rattle.table_clauses.proofs.TablesKept.{AreTables}
use Rattle.exp_tables.specs.TableParts.{walk_code}
use Rattle.exp_tables.proofs.Effects.{after_memory}
use Rattle.exp_tables.proofs.EntryWords.{IsFound, action_read, action_small, is_found, put_read, puts_small}
use Rattle.exp_tables.proofs.Parting.{mark, way_out}
use Rattle.exp_tables.proofs.Arithmetic.{add_pos, quotient_pos, remainder_pos, sub_pos}

next_small : (count : ℕ) (action : Action) → GoesWithin count action → count ≤ 256 → next_table action < 256
next_small count (Goto next) h few = omega (arith, h, few)
next_small count Contin h few = omega arith
next_small count Stop h few = omega arith
next_small count Stopsh h few = omega arith
next_small count Error h few = omega arith

-- the parts of a word
number_of : (n p next : ℕ) → n < 5 → p < 2 → (n + 256 * p + 65536 * next) % 256 ≡ n
number_of n p next h k = omega arith

rest_of : (n p next : ℕ) → n < 5 → p < 2 → (n + 256 * p + 65536 * next) / 256 ≡ p + 256 * next
rest_of n p next h k = omega arith

put_of : (p next : ℕ) → p < 2 → (p + 256 * next) % 256 ≡ p
put_of p next k = omega arith

module _ (g : Setting) (rest : List Op) (inside : is_part rest ≡ true) (start : ℕ) (stype s1 s2 : ℤ) (error run_out stop : Option ℕ) (before : State) (failed : Option ℕ) (words : ℕ → ℤ) (r : Registers) (s : Specifier) (cost : ℕ)
    (valid : IsMemory before.memory) (good : AreTables (length before.tables) before.tables) (few : length before.tables ≤ 256) (small : s.l < 2 ^ 48) where
  abbrev m : Memory
  m = before.memory

  abbrev first : ℤ
  first = s.a ⊞ s.o

  abbrev code : List Op
  code = joined (walk_code start stype (lead before.statement error)) rest

  -- what is left of the clause
  abbrev go : Halt → MemoryEffect
  go halt = streamed (record { stype = stype; head = s1; rest = s2 }) (record { error = flow_to error; run_out = flow_to run_out; stop = flow_to stop }) s halt m

  abbrev turns_on : ℕ → ℕ → Scan → ℕ
  turns_on i n scan = walk_visits (stream_turn before.tables m first) i n scan

  abbrev walks_on : ℕ → ℕ → Scan → Option Halt
  walks_on i n scan = walk (stream_turn before.tables m first) ran_out i n scan

  abbrev standing : ℕ → ℤ → Registers
  standing i put = record r { r4 = pos 0; r8 = pos s.l; r9 = first; r10 = pos i; r11 = pos 1; r13 = put }

  abbrev pub with : Registers → ℕ → Micro
  with registers w = record { state = record before { steps = before.steps + 1 }; registers = registers; scratch = words; failed = failed; spent = w }

  -- the state within a turn, and behind the walk
  abbrev at_scan : ℕ → ℕ → Option ℤ → ℤ → ℤ → ℤ → ℤ → ℕ → Micro
  at_scan i t put x0 x1 x14 x15 w = with (record (standing i (or_zero put)) { r0 = x0; r1 = x1; r12 = pos (512 * t); r14 = x14; r15 = x15 }) w

  abbrev pub behind : ℕ → Option ℤ → Bool → ℤ → ℤ → ℤ → ℤ → ℕ → Micro
  behind n put ran x0 x1 x12 x15 w = with (record (standing n (or_zero put)) { r0 = x0; r1 = x1; r12 = x12; r14 = mark ran; r15 = x15 }) w

  abbrev pub IsEnded : Type 0
  IsEnded =
      (ran : Bool) (n : ℕ) (put : Option ℤ) (x0 x1 x12 x15 : ℤ) (w : ℕ) → n ≤ s.l → w + 400 ≤ cost →
      Makes g (before.statement + 1) rest 0 (behind n put ran x0 x1 x12 x15 w) (after_memory before (leads (flow_to (way_out run_out stop ran)) (parted (record { stype = stype; head = s1; rest = s2 }) s n put m))) cost

  fails_goes : (i t : ℕ) (put : Option ℤ) (x0 x1 x14 x15 : ℤ) (w : ℕ) → w + 100 ≤ cost →
      Makes g (before.statement + 1) code 23 (at_scan i t put x0 x1 x14 x15 w) (after_memory before (leads (flow_to error) (set_a_at m stype (pos 0)))) cost
  unfolding walk_code
  fails_goes i t put x0 x1 x14 x15 w pays =
      by_option (set_a_at m stype (pos 0)) (λ none. record { fuel = 4; meets = simp none (refl, refl, omega (arith, pays)) }) (λ m' is. record { fuel = 4; meets = simp (is, goes_to) (refl, omega (arith, pays)) })

  module _ (ended : IsEnded) where
    -- behind a turn that goes on
    abbrev GoesOn : ℕ → ℕ → ℕ → Type 0
    GoesOn n i w0 =
        (t : ℕ) (put : Option ℤ) (x0 x1 x14 x15 : ℤ) (w : ℕ) → t < length before.tables → w ≤ w0 + 300 → w0 + 300 * (turns_on (i + 1) n (record { table = t; put = put }) + 1) + 600 ≤ cost →
        Makes g (before.statement + 1) code 3 (at_scan (i + 1) t put x0 x1 x14 x15 w) (after_memory before (walks_on (i + 1) n (record { table = t; put = put }) >>= go)) cost

    -- what the action of a number does
    acts : (n i t p : ℕ) (put : Option ℤ) (action : Action) (x15 : ℤ) (w0 w : ℕ) → i + 1 ≤ s.l → t < length before.tables → p < 2 → GoesWithin (length before.tables) action → w ≤ w0 + 180 →
        w0 + 300 * visits_after (Some (acted action i t put)) (turns_on (i + 1) n) + 600 ≤ cost → GoesOn n i w0 →
        Makes g (before.statement + 1) code 17 (at_scan i t put (pos p) (pos (action_number action)) (pos (p + 256 * next_table action)) x15 w) (after_memory before (on_turn (acted action i t put) (walks_on (i + 1) n) >>= go)) cost
    unfolding walk_code
    acts n i t p put Contin x15 w0 w le here lt within near pays on =
        let up : wrapped_sum (pos i) (pos 1) ≡ pos (i + 1) = add_pos i 1 (i + 1) refl (omega (arith, le, small)) in
        by_way (on t put (pos p) (pos 0) (pos (p + 256 * 0)) x15 (w + 8 + 8 + 8) here (omega (arith, near)) pays) (λ f y. record { fuel = more 3 f; meets = simp up y })
    acts n i t p put (Goto next) x15 w0 w le here lt within near pays on =
        let up : wrapped_sum (pos i) (pos 1) ≡ pos (i + 1) = add_pos i 1 (i + 1) refl (omega (arith, le, small)) in
        let less : wrapped_difference (pos (p + 256 * next)) (pos p) ≡ pos (256 * next) = sub_pos (p + 256 * next) p (256 * next) (omega arith) (omega (arith, within, few, lt)) in
        let twice : wrapped_sum (pos (256 * next)) (pos (256 * next)) ≡ pos (512 * next) = add_pos (256 * next) (256 * next) (512 * next) (omega arith) (omega (arith, within, few)) in
        by_way (on next put (pos p) (pos 1) (pos (256 * next)) x15 (w + 8 + 8 + 8 + 8 + 8 + 8) within (omega (arith, near)) pays) (λ f y. record { fuel = more 6 f; meets = simp (less, twice, up) y })
    acts n i t p put Stop x15 w0 w le here lt within near pays on =
        let up : wrapped_sum (pos i) (pos 1) ≡ pos (i + 1) = add_pos i 1 (i + 1) refl (omega (arith, le, small)) in
        by_way (then_part (walk_code start stype (lead before.statement error)) inside (omega arith) (ended false (i + 1) put (pos p) (pos 2) (pos (512 * t)) (pos 2) (w + 8 + 8 + 8 + 8 + 8 + 8) le (omega (arith, near, pays)))) (λ f y. record { fuel = more 6 f; meets = simp up y })
    acts n i t p put Stopsh x15 w0 w le here lt within near pays on =
        by_way (then_part (walk_code start stype (lead before.statement error)) inside (omega arith) (ended false i put (pos p) (pos 3) (pos (512 * t)) (pos 3) (w + 8 + 8 + 8 + 8 + 8 + 8 + 8) (omega (arith, le)) (omega (arith, near, pays)))) (λ f y. record { fuel = more 7 f; meets = y })
    acts n i t p put Error x15 w0 w le here lt within near pays on =
        by_way (fails_goes i t put (pos p) (pos 4) (pos (p + 256 * 0)) (pos 3) (w + 8 + 8 + 8 + 8 + 8 + 8) (omega (arith, near, pays))) (λ f y. record { fuel = more 6 f; meets = y })

    -- and what the entry puts
    puts_goes : (n i t : ℕ) (old put : Option ℤ) (action : Action) (w0 w : ℕ) → i + 1 ≤ s.l → t < length before.tables → GoesWithin (length before.tables) action → w ≤ w0 + 160 →
        w0 + 300 * visits_after (Some (acted action i t (latest old put))) (turns_on (i + 1) n) + 600 ≤ cost → GoesOn n i w0 →
        Makes g (before.statement + 1) code 15 (at_scan i t old (pos (puts put)) (pos (action_number action)) (pos (puts put + 256 * next_table action)) (put_word put) w) (after_memory before (on_turn (acted action i t (latest old put)) (walks_on (i + 1) n) >>= go)) cost
    unfolding walk_code
    puts_goes n i t old None action w0 w le here within near pays on =
        by_way (acts n i t 0 old action (pos 0) w0 (w + 8) le here (omega arith) within (omega (arith, near)) pays on) (λ f y. record { fuel = more 1 f; meets = y })
    puts_goes n i t old (Some value) action w0 w le here within near pays on =
        by_way (acts n i t 1 (Some value) action value w0 (w + 8 + 8) le here (omega arith) within (omega (arith, near)) pays on) (λ f y. record { fuel = more 2 f; meets = y })

    scan_loop : (n i t : ℕ) (put : Option ℤ) (x0 x1 x14 x15 : ℤ) (w : ℕ) → i + n ≡ s.l → t < length before.tables → w + 300 * turns_on i n (record { table = t; put = put }) + 600 ≤ cost →
        Makes g (before.statement + 1) code 3 (at_scan i t put x0 x1 x14 x15 w) (after_memory before (walks_on i n (record { table = t; put = put }) >>= go)) cost
    unfolding walk walk_visits stream_turn walk_code
    scan_loop zero i t put x0 x1 x14 x15 w is here pays =
        let e : i ≡ s.l = omega (arith, is) in
        let z : nat_eq s.l s.l ≡ true = grind arith in
        by_way (then_part (walk_code start stype (lead before.statement error)) inside (omega arith) (ended true s.l put x0 x1 (pos (512 * t)) x15 (w + 8 + 8 + 8) (omega arith) (omega (arith, pays)))) (λ f y. record { fuel = more 3 f; meets = simp (e, z) y })
    scan_loop (suc n) i t put x0 x1 x14 x15 w is here pays =
        let z : nat_eq i s.l ≡ false = grind arith in
        by_option (char_at m (first ⊞ pos i))
        (λ e. let pays' = simp e at pays in record { fuel = 4; meets = simp (z, e) (refl, refl, omega (arith, pays')) })
        (λ c e.
        let byte = char_is_byte m (first ⊞ pos i) c valid e in
        let found : IsFound before.tables t c = is_found before.tables t c good here byte in
        let entry = found.entry in
        let within = found.good.within in
        let pays' = simp (e, found.is) at pays in
        let lt = puts_small entry.put in
        let low = action_small entry.action in
        let next = next_small (length before.tables) entry.action within few in
        let word = action_number entry.action + 256 * puts entry.put + 65536 * next_table entry.action in
        let double : wrapped_sum (pos c) (pos c) ≡ pos (2 * c) = add_pos c c (2 * c) (omega arith) (omega (arith, byte)) in
        let number : wrapped_sum (pos (2 * c)) (pos (512 * t)) ≡ pos (512 * t + 2 * c) = add_pos (2 * c) (512 * t) (512 * t + 2 * c) (omega arith) (omega (arith, here, few, byte)) in
        let second : wrapped_sum (pos (512 * t + 2 * c)) (pos 1) ≡ pos (512 * t + 2 * c + 1) = add_pos (512 * t + 2 * c) 1 (512 * t + 2 * c + 1) refl (omega (arith, here, few, byte)) in
        let read = action_read before.tables t c entry byte found.is in
        let read2 = put_read before.tables t c entry byte found.is in
        let action : remainder (pos word) (pos 256) ≡ pos (action_number entry.action) = remainder_pos word 256 (action_number entry.action) (omega arith) (number_of (action_number entry.action) (puts entry.put) (next_table entry.action) low lt) in
        let above : quotient (pos word) (pos 256) ≡ pos (puts entry.put + 256 * next_table entry.action) = quotient_pos word 256 (puts entry.put + 256 * next_table entry.action) (omega arith) (omega (arith, low, lt, next)) (rest_of (action_number entry.action) (puts entry.put) (next_table entry.action) low lt) in
        let kept : remainder (pos (puts entry.put + 256 * next_table entry.action)) (pos 256) ≡ pos (puts entry.put) = remainder_pos (puts entry.put + 256 * next_table entry.action) 256 (puts entry.put) (omega arith) (put_of (puts entry.put) (next_table entry.action) lt) in
        by_way (puts_goes n i t put entry.put entry.action w (w + 8 + 8 + 28 + 8 + 8 + 28 + 8 + 28 + 8 + 8 + 8 + 8) (omega (arith, is)) here within (omega arith) pays'
        (λ t' put' y0 y1 y14 y15 w' here' near' p. scan_loop n (i + 1) t' put' y0 y1 y14 y15 w' (omega (arith, is)) here' (omega (arith, near', p))))
        (λ f y. record { fuel = more 12 f; meets = simp (z, e, double, number, second, read, read2, action, above, kept, found.is) y }))

    pub walk_goes : (x0 x1 x10 x12 x13 x14 x15 : ℤ) (w : ℕ) → start < length before.tables → w + 300 * turns_on 0 s.l (record { table = start; put = None }) + 700 ≤ cost →
        Makes g (before.statement + 1) code 0 (with (record r { r0 = x0; r1 = x1; r4 = pos 0; r8 = pos s.l; r9 = first; r10 = x10; r11 = pos 1; r12 = x12; r13 = x13; r14 = x14; r15 = x15 }) w)
        (after_memory before (walks_on 0 s.l (record { table = start; put = None }) >>= go)) cost
    unfolding walk_code
    walk_goes x0 x1 x10 x12 x13 x14 x15 w here pays =
        by_way (scan_loop s.l 0 start None x0 x1 x14 x15 (w + 8 + 8 + 8) (omega arith) here (omega (arith, pays))) (λ f y. record { fuel = more 3 f; meets = y })
