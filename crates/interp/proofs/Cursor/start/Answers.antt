-- `interp::Cursor::start` meets its contract. Assumes nothing.
use Rattle.std.proofs.Common.{◌≡◌, ℕ, ◌+◌, ◌-◌, Bool, true, false, ltb, List, ◌++◌, length, take, drop, replicate, min, refl, arith, ltb-true, ltb-false, append-nil, take_all}
use Rattle.std.proofs.lemmas.List.{take-append-le, take-replicate, drop-replicate}
use lib.Seq.{take-append-add}
use Rattle.interp.specs.declared.Cursor.{Cursor}
use Rattle.interp.specs.Machine.{at, loaded, start_of}
use Rattle.interp.proofs.Cursor.start.Goals as goal

-- the front of a list over zeros: all of it and the zeros left, or its first n
over_zeros : (s : List ℕ) (n kept : ℕ) → kept ≡ min (length s) n → take kept s ++ drop kept (replicate n 0) ≡ take n (s ++ replicate n 0)
over_zeros s n kept e = go (ltb n (length s)) refl
  where
    go : (b : Bool) → ltb n (length s) ≡ b → take kept s ++ drop kept (replicate n 0) ≡ take n (s ++ replicate n 0)
    go true t =
        let h = ltb-true n (length s) t in
        let all : kept ≡ n = omega (arith, h) in
        let none : n - n ≡ 0 = omega arith in
        rw (drop-replicate {X = ℕ} kept n 0, all, none, take-append-le n s (replicate n 0) (omega (arith, h))) (append-nil (take n s))
    go false t =
        let h = ltb-false n (length s) t in
        let all : kept ≡ length s = omega (arith, h) in
        let whole : length s + (n - length s) ≡ n = omega (arith, h) in
        rw (drop-replicate {X = ℕ} kept n 0, all, take_all (length s) s (omega arith), ← take-replicate {X = ℕ} (n - length s) n 0 (omega arith), ← take-append-add s (replicate n 0) (n - length s), whole) refl

-- the fresh cursor, if its RAM is loaded
started : (input ram : List ℕ) → ram ≡ loaded input → ◌≡◌ {A = Cursor} (record { regs = replicate 64 0; ram = ram; micro_pc = at 0; cycles = 0; halted = false; output = 0; next_fetch = at 0 }) (start_of input)
unfolding start_of
started input ram e = rw e refl

pub returns : goal.returns
unfolding loaded
returns c = started c.args.input.now _ (rw c.copy_from_slice.ensures.after (over_zeros c.args.input.now 256 c.min-kept.result c.min-kept.ensures))
