-- `magnetar_cpu::dispatcher::write_dispatcher` meets its contract. Assumes nothing.
use Rattle.std.proofs.Common.{◌≡◌, ℕ, List, ◌++◌, map, length, take, drop, set, refl, ap, ◌∙◌, arith, length-drop}
use Rattle.std.proofs.lemmas.List.{take_all, length-map}
use Rattle.dispatch.specs.declared.caller.Caller.{Caller}
use Rattle.dispatch.specs.Dispatch.{wanting}
use Rattle.magnetar_cpu.specs.DispatcherImage.{dispatcher_image}
use Rattle.magnetar_cpu.proofs.Filling.{filled_on, last_two}
use Rattle.magnetar_cpu.proofs.dispatcher.write_dispatcher.Goals as goal

pub loop-i-init : goal.loop-i-init
loop-i-init c = record { is = refl }

pub loop-i-preserved : goal.loop-i-preserved
loop-i-preserved c = filled_on _ _ _ _ _ (wanting 0) c.loop-i.invariant (omega arith) (omega arith)

pub returns : goal.returns
unfolding dispatcher_image
returns c =
    let d = c.args.d.now in
    let wants : List Caller → List ℕ = map (λ (caller : Caller). caller.wanted) in
    let all : c.loop-i.i ≡ 16 = omega arith in
    let sixteen : length d.callers ≡ 16 = omega arith in
    ap (λ l. set (set l 16 d.position) 17 d.budget)
    (c.loop-i.invariant.is
    ∙ ap (λ i. wants (take i d.callers) ++ drop i c.args.image.now) all
    ∙ ap (λ l. wants l ++ drop 16 c.args.image.now) (take_all 16 d.callers (omega arith)))
    ∙ last_two (wants d.callers) (drop 16 c.args.image.now) 16 d.position d.budget (length-map d.callers _ ∙ sixteen) (length-drop 16 c.args.image.now ∙ omega arith)
