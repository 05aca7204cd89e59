-- `interp::live_cycle` meets its contract. Assumes nothing.
use Rattle.std.proofs.Common.{◌≡◌, ℕ, ◌^◌, ◌<◌, List, refl, ◌∙◌}
use Rattle.expand.specs.declared.RomRow.{RomRow}
use Rattle.interp.specs.declared.cycle.Core.{Core}
use Rattle.interp.specs.declared.effect.Effect.{Effect}
use Rattle.interp.specs.Cycle.{accumulator, arm_of, step_at}
use Rattle.interp.specs.Code.{InRange, Sound}
use Rattle.interp.proofs.arms.Lawful.{arm_lawful}
use Rattle.interp.proofs.cycle.live_cycle.Goals.{After-alu_arm, After-branch_arm-e, After-jump_arm-e, After-load_arm-e, After-stage_of, After-store_arm-e, After-system_arm, After-upper_arm-e}
use Rattle.interp.proofs.cycle.live_cycle.Goals as goal

-- the definition's effect of the row
abbrev the_effect : RomRow → Core → ℕ → List ℕ → List ℕ → Effect
the_effect row core count regs ram = arm_of row.kind row core.micro_pc count (accumulator regs) regs ram

-- it is sound, and so the cycle may end with it
may_commit : (row : RomRow) (core : Core) (count : ℕ) (regs ram : List ℕ) (e : Effect) → e ≡ the_effect row core count regs ram
    → InRange row × ((core.cycles < 2 ^ 62) × (core.micro_pc.0 < count))
    → InRange row × (Sound e × (core.cycles < 2 ^ 62))
may_commit row core count regs ram e h r =
    let lawful = arm_lawful row core.micro_pc count regs r.0.rd r.1.1 row.kind (accumulator regs) ram in
    (r.0, (rw h lawful.sound, r.1.0))

-- what each arm answers is that effect
alu_is : (c : After-alu_arm) → c.alu_arm.result ≡ the_effect c.args.row c.args.core c.args.count c.args.memory.now.regs c.args.memory.now.ram
unfolding arm_of
alu_is c = simp (c.in-Alu.is, c.alu_arm.ensures, c.next_row-next.ensures)

stage_is : (c : After-stage_of) → c.stage_of.result ≡ the_effect c.args.row c.args.core c.args.count c.args.memory.now.regs c.args.memory.now.ram
unfolding arm_of
stage_is c = simp (c.in-ShiftStage.is, c.stage_of.ensures, c.next_row-next.ensures)

load_is : (c : After-load_arm-e) → c.load_arm-e.result ≡ the_effect c.args.row c.args.core c.args.count c.args.memory.now.regs c.args.memory.now.ram
unfolding arm_of
load_is c = simp (c.in-Load.is, c.load_arm-e.ensures, c.next_row-next.ensures)

store_is : (c : After-store_arm-e) → c.store_arm-e.result ≡ the_effect c.args.row c.args.core c.args.count c.args.memory.now.regs c.args.memory.now.ram
unfolding arm_of
store_is c = simp (c.in-Store.is, c.store_arm-e.ensures, c.next_row-next.ensures)

branch_is : (c : After-branch_arm-e) → c.branch_arm-e.result ≡ the_effect c.args.row c.args.core c.args.count c.args.memory.now.regs c.args.memory.now.ram
unfolding arm_of
branch_is c = simp (c.in-Branch.is, c.branch_arm-e.ensures, c.next_row-next.ensures)

upper_is : (c : After-upper_arm-e) → c.upper_arm-e.result ≡ the_effect c.args.row c.args.core c.args.count c.args.memory.now.regs c.args.memory.now.ram
unfolding arm_of
upper_is c = simp (c.in-Upper.is, c.upper_arm-e.ensures, c.next_row-next.ensures)

jump_is : (c : After-jump_arm-e) → c.jump_arm-e.result ≡ the_effect c.args.row c.args.core c.args.count c.args.memory.now.regs c.args.memory.now.ram
unfolding arm_of
jump_is c = simp (c.in-Jump.is, c.jump_arm-e.ensures)

system_is : (c : After-system_arm) → c.system_arm.result ≡ the_effect c.args.row c.args.core c.args.count c.args.memory.now.regs c.args.memory.now.ram
unfolding arm_of
system_is c = simp (c.in-System.is, c.system_arm.ensures)

pub commit-requires : goal.commit-requires
commit-requires c = may_commit c.args.row c.args.core c.args.count c.args.memory.now.regs c.args.memory.now.ram _ (alu_is (goal.at.commit-requires c).After-alu_arm) c.requires

pub commit-requires-in-ShiftStage : goal.commit-requires-in-ShiftStage
commit-requires-in-ShiftStage c = may_commit c.args.row c.args.core c.args.count c.args.memory.now.regs c.args.memory.now.ram _ (stage_is (goal.at.commit-requires-in-ShiftStage c).After-stage_of) c.requires

pub commit-requires-in-Load : goal.commit-requires-in-Load
commit-requires-in-Load c = may_commit c.args.row c.args.core c.args.count c.args.memory.now.regs c.args.memory.now.ram _ (load_is (goal.at.commit-requires-in-Load c).After-load_arm-e) c.requires

pub commit-requires-in-Store : goal.commit-requires-in-Store
commit-requires-in-Store c = may_commit c.args.row c.args.core c.args.count c.args.memory.now.regs c.args.memory.now.ram _ (store_is (goal.at.commit-requires-in-Store c).After-store_arm-e) c.requires

pub commit-requires-in-Branch : goal.commit-requires-in-Branch
commit-requires-in-Branch c = may_commit c.args.row c.args.core c.args.count c.args.memory.now.regs c.args.memory.now.ram _ (branch_is (goal.at.commit-requires-in-Branch c).After-branch_arm-e) c.requires

pub commit-requires-in-Upper : goal.commit-requires-in-Upper
commit-requires-in-Upper c = may_commit c.args.row c.args.core c.args.count c.args.memory.now.regs c.args.memory.now.ram _ (upper_is (goal.at.commit-requires-in-Upper c).After-upper_arm-e) c.requires

pub commit-requires-in-Jump : goal.commit-requires-in-Jump
commit-requires-in-Jump c = may_commit c.args.row c.args.core c.args.count c.args.memory.now.regs c.args.memory.now.ram _ (jump_is (goal.at.commit-requires-in-Jump c).After-jump_arm-e) c.requires

pub commit-requires-in-System : goal.commit-requires-in-System
commit-requires-in-System c = may_commit c.args.row c.args.core c.args.count c.args.memory.now.regs c.args.memory.now.ram _ (system_is (goal.at.commit-requires-in-System c).After-system_arm) c.requires

pub returns-in-Alu : goal.returns-in-Alu
unfolding step_at
returns-in-Alu c = let done = c.commit.ensures in let e = alu_is (goal.at.returns-in-Alu c).After-alu_arm in record {
  cursor = done.cursor ∙ rw e refl;
  shown = done.shown ∙ rw e refl;
}

pub returns-in-ShiftStage : goal.returns-in-ShiftStage
unfolding step_at
returns-in-ShiftStage c = let done = c.commit-in-ShiftStage.ensures in let e = stage_is (goal.at.returns-in-ShiftStage c).After-stage_of in record {
  cursor = done.cursor ∙ rw e refl;
  shown = done.shown ∙ rw e refl;
}

pub returns-in-Load : goal.returns-in-Load
unfolding step_at
returns-in-Load c = let done = c.commit-in-Load.ensures in let e = load_is (goal.at.returns-in-Load c).After-load_arm-e in record {
  cursor = done.cursor ∙ rw e refl;
  shown = done.shown ∙ rw e refl;
}

pub returns-in-Store : goal.returns-in-Store
unfolding step_at
returns-in-Store c = let done = c.commit-in-Store.ensures in let e = store_is (goal.at.returns-in-Store c).After-store_arm-e in record {
  cursor = done.cursor ∙ rw e refl;
  shown = done.shown ∙ rw e refl;
}

pub returns-in-Branch : goal.returns-in-Branch
unfolding step_at
returns-in-Branch c = let done = c.commit-in-Branch.ensures in let e = branch_is (goal.at.returns-in-Branch c).After-branch_arm-e in record {
  cursor = done.cursor ∙ rw e refl;
  shown = done.shown ∙ rw e refl;
}

pub returns-in-Upper : goal.returns-in-Upper
unfolding step_at
returns-in-Upper c = let done = c.commit-in-Upper.ensures in let e = upper_is (goal.at.returns-in-Upper c).After-upper_arm-e in record {
  cursor = done.cursor ∙ rw e refl;
  shown = done.shown ∙ rw e refl;
}

pub returns-in-Jump : goal.returns-in-Jump
unfolding step_at
returns-in-Jump c = let done = c.commit-in-Jump.ensures in let e = jump_is (goal.at.returns-in-Jump c).After-jump_arm-e in record {
  cursor = done.cursor ∙ rw e refl;
  shown = done.shown ∙ rw e refl;
}

pub returns-in-System : goal.returns-in-System
unfolding step_at
returns-in-System c = let done = c.commit-in-System.ensures in let e = system_is (goal.at.returns-in-System c).After-system_arm in record {
  cursor = done.cursor ∙ rw e refl;
  shown = done.shown ∙ rw e refl;
}
