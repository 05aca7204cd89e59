-- That the definition says "every field but cycles agrees" exactly. Assumes nothing.
use mathlib.Core.Path.{◌≡◌, refl, sym, ap, ◌∙◌}
use mathlib.Core.Bool.{Bool, true, false, ◌&&◌, false≢true}
use Rattle.std.specs.Cmp.{booleans_Decides}
use mathlib.Core.List.{List}
use Prim.Native.Nat.{ℕ}
use Rattle.std.proofs.Common.{rules, nat_eq}
use Rattle.std.specs.Bool.{Decides}
use Rattle.std.specs.Cmp.Lexicographic.{pointwise}
use Rattle.std.proofs.lemmas.Bool.Decides.{same_from_decides}
use Rattle.std.proofs.lemmas.Slice.Eq.{compares_Decides, bytes_eq-Decides}
use lib.Dec.{eqb}
use borrow.Author.Tests.{eqb-true, eq-eqb}
use Rattle.expand.specs.declared.MicroPc.{MicroPc}
use Rattle.interp.specs.declared.Cursor.{Cursor}
use Rattle.interp.specs.Machine.{at}
use Rattle.interp.specs.Laws.{uncounted}
use Rattle.checkpoint.specs.Checkpoint.{agree, same_of}
use Rattle.checkpoint.specs.Claims.{Same, Exact}

-- ---- words

agree_Decides : (xs ys : List ℕ) → Decides (agree xs ys) (xs ≡ ys)
unfolding agree
agree_Decides = compares_Decides agree (search rules)

-- what `==` ensures
pub agree_equals : (xs ys : List ℕ) → pointwise nat_eq xs ys ≡ agree xs ys
agree_equals xs ys = same_from_decides (pointwise nat_eq xs ys) (agree xs ys) (bytes_eq-Decides xs ys) (agree_Decides xs ys)

-- ---- exactly

-- six tests that all hold
six : (p q r s t u : Bool) → (p && q && r && s && t && u) ≡ true
    → (p ≡ true) × (q ≡ true) × (r ≡ true) × (s ≡ true) × (t ≡ true) × (u ≡ true)
six true true true true true u e = (refl, refl, refl, refl, refl, e)
six true true true true false u e = absurd (false≢true e)
six true true true false t u e = absurd (false≢true e)
six true true false s t u e = absurd (false≢true e)
six true false r s t u e = absurd (false≢true e)
six false q r s t u e = absurd (false≢true e)

same_only : (a b : Cursor) → same_of a b ≡ true → Same a b
unfolding same_of
same_only a b e =
    let (pc, halted, output, fetch, regs, ram) = six _ _ _ _ _ _ e in
    record {
      micro_pc = ap at (eqb-true _ _ pc);
      halted = (booleans_Decides _ _).0 halted;
      output = eqb-true _ _ output;
      next_fetch = ap at (eqb-true _ _ fetch);
      regs = (agree_Decides _ _).0 regs;
      ram = (agree_Decides _ _).0 ram;
    }

place_if : (m n : MicroPc) → m ≡ n → eqb m.0 n.0 ≡ true
place_if m n e = eq-eqb _ _ (ap (λ (p : MicroPc). p.0) e)

same_if : (a b : Cursor) → Same a b → same_of a b ≡ true
unfolding same_of
same_if a b h =
    simp (
      place_if _ _ h.micro_pc,
      (booleans_Decides _ _).1 h.halted,
      eq-eqb _ _ h.output,
      place_if _ _ h.next_fetch,
      (agree_Decides _ _).1 h.regs,
      (agree_Decides _ _).1 h.ram,
    )

-- ---- as one equation

same_uncounted : (a b : Cursor) → Same a b → uncounted a ≡ uncounted b
unfolding uncounted
same_uncounted a b h = rw (h.micro_pc, h.halted, h.output, h.next_fetch, h.regs, h.ram) refl

uncounted_same : (a b : Cursor) → uncounted a ≡ uncounted b → Same a b
unfolding uncounted
uncounted_same a b e =
    record {
      micro_pc = ap (λ (c : Cursor). c.micro_pc) e;
      halted = ap (λ (c : Cursor). c.halted) e;
      output = ap (λ (c : Cursor). c.output) e;
      next_fetch = ap (λ (c : Cursor). c.next_fetch) e;
      regs = ap (λ (c : Cursor). c.regs) e;
      ram = ap (λ (c : Cursor). c.ram) e;
    }

pub same_is : (a b : Cursor) → same_of a b ≡ true → uncounted a ≡ uncounted b
same_is a b e = same_uncounted a b (same_only a b e)

pub is_same : (a b : Cursor) → uncounted a ≡ uncounted b → same_of a b ≡ true
is_same a b e = same_if a b (uncounted_same a b e)

pub exact : Exact
exact =
    record {
      only = same_only;
      if = same_if;
      reflexive = λ a. is_same a a refl;
      symmetric = λ a b e. is_same b a (sym (same_is a b e));
      transitive = λ a b c e f. is_same a c (same_is a b e ∙ same_is b c f);
    }
