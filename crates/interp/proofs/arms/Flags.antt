-- The flags of ALU rows, loads and branches are within bounds. Assumes nothing.
use Rattle.std.proofs.Common.{ℕ, ◌<◌, Bool, true, false, cond, ◌&&◌, eqb, arith}
use Rattle.interp.specs.Values.{register_form, alternate}
use Rattle.interp.specs.Cycle.{sub_flag, alu_flags, load_flag, branch_flags}

pub cond_lt : (b : Bool) {x y n : ℕ} → x < n → y < n → cond b x y < n
cond_lt true p q = p
cond_lt false p q = q

pub sub_flag_lt : (raw : ℕ) → sub_flag raw < 0x11
sub_flag_lt raw = cond_lt (register_form raw && alternate raw) (omega arith) (omega arith)

-- those of an ALU row stay below is_store
pub alu_flags_lt : (f raw : ℕ) → alu_flags f raw < 0x80
unfolding alu_flags
alu_flags_lt f raw =
    cond_lt (eqb f 0) (omega (arith, sub_flag_lt raw))
    (cond_lt (eqb f 1) (omega arith)
    (cond_lt (eqb f 2) (omega arith)
    (cond_lt (eqb f 3) (omega arith)
    (cond_lt (eqb f 4) (omega arith)
    (cond_lt (eqb f 5) (omega arith)
    (cond_lt (eqb f 6) (omega arith)
    (cond_lt (eqb f 7) (omega arith) (omega arith))))))))

pub load_flag_lt : (f : ℕ) → load_flag f < 0x401
unfolding load_flag
load_flag_lt f =
    cond_lt (eqb f 0) (omega arith)
    (cond_lt (eqb f 4) (omega arith)
    (cond_lt (eqb f 1) (omega arith)
    (cond_lt (eqb f 5) (omega arith) (omega arith))))

pub branch_flags_lt : (taken : Bool) → branch_flags taken < 0x1000
branch_flags_lt true = omega arith
branch_flags_lt false = omega arith
