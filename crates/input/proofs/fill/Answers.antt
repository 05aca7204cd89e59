-- What is filled is what the reader has lost: a part more at each turn.
use Rattle.std.proofs.Common.{◌≡◌, ℕ, ◌+◌, ◌≤◌, List, ◌++◌, length, take, sym, ap, ◌∙◌, subst, rules, length-take-le}
use Rattle.std.proofs.lemmas.List.{take-append-le}
use Rattle.std.proofs.Math.Seq.{take-append-add}
use Rattle.std.proofs.KnownBytes.{Consumes-trans}
use Rattle.std.specs.Io.KnownBytes.{Consumes}
use borrow.Rule.Slice.PartMut.{put_mid, post_of}
use Rattle.input.proofs.fill.Goals as goal

-- the first a of xs and then the first n of ys, where ys stands in xs from a on
part_taken : (a k n : ℕ) (xs ys : List ℕ) → a ≤ length xs → n ≤ length ys → take a xs ++ take n ys ≡ take (a + n) (put_mid a k xs ys)
part_taken a k n xs ys h m =
    sym (ap (λ i. take (i + n) (put_mid a k xs ys)) (sym (length-take-le a xs h)) ∙ take-append-add (take a xs) (ys ++ post_of a k xs) n
    ∙ ap (λ l. take a xs ++ l) (take-append-le n ys (post_of a k xs) m))

pub loop-have-preserved : goal.loop-have-preserved
loop-have-preserved g c =
    let l = c.loop-have in
    let part = c.read_once in (
      search rules,
      subst (Consumes _ _) (part_taken l.have _ c.in-Ok.n l.buf part.new.buf l.invariant.0 c.in-Ok.ensures.prefix_len.0)
          (Consumes-trans _ _ _ _ _ l.invariant.1 c.in-Ok.ensures.bytes),
    )

pub returns-in-Err-clause-bytes : goal.returns-in-Err-clause-bytes
returns-in-Err-clause-bytes g c =
    let l = c.loop-have in
    subst (Consumes _ _) (part_taken l.have _ c.in-Err.e.count l.buf c.read_once.new.buf l.invariant.0 c.in-Err.ensures.prefix_len.0)
    (Consumes-trans _ _ _ _ _ l.invariant.1 c.in-Err.ensures.bytes)
