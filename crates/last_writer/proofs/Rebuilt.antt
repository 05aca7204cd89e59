-- The indexed writes rebuild the last cursor of a list of calls. Of the machine it is used only what demand 3 claims.
-- Assumes nothing.
use mathlib.Core.Path.{◌≡◌, refl, sym, ◌∙◌}
use mathlib.Core.Logic.{◌≢◌}
use mathlib.Core.Bool.{Bool, true, false, cond, ◌&&◌, ◌||◌, and-eq-true_iff, false≢true}
use mathlib.Core.List.{List, []}
use Prim.Native.Nat.{ℕ, ◌^◌, ◌≤◌, ◌<◌}
use native.Mathlib.Omega.{arith}
use lib.ListN.{length, get_or}
use lib.Dec.{eqb}
use borrow.Author.Tests.{eqb-true, eq-eqb, ne_eqb}
use Rattle.interp.specs.Machine.{start_of}
use Rattle.interp.specs.Calls.{Call, last}
use Rattle.interp.specs.Replay.{word, stored}
use Rattle.interp.specs.Demand3.{Ends}
use Rattle.last_writer.specs.Index.{places, ram_place, none, writes, in_range}
use Rattle.last_writer.specs.Claims.{Says, register_from, ram_from, Rebuilds}
use Rattle.last_writer.proofs.Entries.{Found, wrote, never, find}
use Rattle.last_writer.proofs.Range.{Inside, range-at}

-- ---- which place a record in range writes

or-first : (a b c : Bool) → c ≡ false → (a || (b && c)) ≡ true → a ≡ true
or-first true b c f h = refl
or-first false true c f h = absurd (false≢true (sym f ∙ h))
or-first false false c f h = h

or-second : (a b c : Bool) → a ≡ false → (a || (b && c)) ≡ true → (b ≡ true) × (c ≡ true)
or-second true b c f h = absurd (false≢true (sym f))
or-second false b c f h = (and-eq-true_iff b c).0 h

module _ (r : List ℕ) (x : ℕ) where
  register-hit : x < 64 → writes r x ≡ true → word r 5 ≡ x
  unfolding writes
  register-hit h t = eqb-true _ _ (or-first (eqb (word r 5) x) (stored r) (eqb (ram_place (word r 6)) x)
      (ne_eqb (ram_place (word r 6)) x (λ e. omega arith)) t)

  register-miss : writes r x ≡ false → word r 5 ≢ x
  unfolding writes
  register-miss t e = false≢true (sym t ∙ rw (eq-eqb (word r 5) x e) refl)

  ram-hit : Inside r → writes r (ram_place x) ≡ true → (stored r ≡ true) × (word r 6 ≡ x)
  unfolding writes
  ram-hit i t =
      let h = or-second (eqb (word r 5) (ram_place x)) (stored r) (eqb (ram_place (word r 6)) (ram_place x))
      (ne_eqb (word r 5) (ram_place x) (λ e. omega (arith, i.register))) t in
      (h.0, omega (arith, eqb-true (ram_place (word r 6)) (ram_place x) h.1))

  ram-miss : writes r (ram_place x) ≡ false → stored r ≡ true → word r 6 ≢ x
  unfolding writes
  ram-miss t s e = go (eqb (word r 5) (ram_place x)) (sym t ∙ rw (s, e, eq-eqb (ram_place x) (ram_place x) refl) refl)
    where
      go : (b : Bool) → false ≡ (b || true) → ⊥
      go true h = false≢true h
      go false h = false≢true h

-- ---- the last cursor

module _ (rows input : List ℕ) (calls : List Call) (rs : List (List ℕ)) (index : List ℕ)
    (ends : Ends rows input calls rs) (range : in_range rs ≡ true) (few : length rs ≤ 2 ^ 62)
    (says : (x : ℕ) → x < places → Says rs x (get_or index x 0)) where
  registers : (x : ℕ) → 0 < x → x < 64 → get_or (last rows (start_of input) calls).regs x 0 ≡ register_from rs index x
  unfolding register_from
  registers x p q = go (find rs x)
    where
      go : Found rs x → get_or (last rows (start_of input) calls).regs x 0 ≡ cond (eqb (get_or index x 0) none) 0 (word (get_or rs (get_or index x 0) []) 3)
      go (wrote i l) =
          let e = (says x (omega arith)).if i l in
          rw (e, ne_eqb i none (λ w. omega (arith, l.inside)))
          ((ends.registers x p q).wrote i l.inside (register-hit (get_or rs i []) x q l.here) (λ j a b. register-miss (get_or rs j []) x (l.later j a b)))
      go (never u) =
          rw (eq-eqb _ _ ((says x (omega arith)).none_if u)) ((ends.registers x p q).never (λ j b. register-miss (get_or rs j []) x (u j b)))

  ram-at : (x j : ℕ) → x < 256 → j < length rs → stored (get_or rs j []) ≡ true → word (get_or rs j []) 6 ≡ x
      → get_or (last rows (start_of input) calls).ram x 0 ≡ ram_from rs index x
  unfolding ram_from
  ram-at x j q h s e = go (find rs (ram_place x))
    where
      go : Found rs (ram_place x) → get_or (last rows (start_of input) calls).ram x 0 ≡ word (get_or rs (get_or index (ram_place x) 0) []) 9
      go (wrote i l) =
          let hit = ram-hit (get_or rs i []) x (range-at rs range i l.inside) l.here in
          rw ((says (ram_place x) (omega arith)).if i l)
          ((ends.ram x q).wrote i l.inside hit.0 hit.1 (λ k a b. ram-miss (get_or rs k []) x (l.later k a b)))
      go (never u) = absurd (ram-miss (get_or rs j []) x (u j h) s e)

  pub rebuilds : Rebuilds rows input calls rs index
  rebuilds = record { registers = registers; ram = λ j h s. ram-at _ j (range-at rs range j h).address h s refl }
