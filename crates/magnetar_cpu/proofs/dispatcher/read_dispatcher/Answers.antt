-- `magnetar_cpu::dispatcher::read_dispatcher` meets its contract. Assumes nothing.
use Rattle.std.proofs.Common.{◌≡◌, refl, arith}
use Rattle.magnetar_cpu.specs.DispatcherImage.{dispatcher_of}
use Rattle.magnetar_cpu.proofs.Filling.{filled_on, filled_all}
use Rattle.magnetar_cpu.proofs.dispatcher.read_dispatcher.Goals as goal

pub loop-i-init : goal.loop-i-init
loop-i-init c = record { is = refl }

pub loop-i-preserved : goal.loop-i-preserved
loop-i-preserved c = filled_on _ _ _ _ _ 0 c.loop-i.invariant (omega arith) c.loop-i-test.true

pub returns : goal.returns
unfolding dispatcher_of
returns c =
    let i = c.loop-i.i in
    let all : i ≡ 16 = omega arith in
    let callers = filled_all _ i _ _ _ c.loop-i.invariant (omega arith) in
    rw (callers, all) refl
