-- `interp::load_arm` meets its contract. Assumes nothing.
use Rattle.interp.specs.Cycle.{load_arm}
use Rattle.interp.proofs.arms.load_arm.Goals as goal

pub returns : goal.returns
unfolding load_arm
returns c = simp (c.plain.ensures, c.writes_to.ensures, c.showing-shown.ensures, c.load_flags.ensures, c.extract_load-v.ensures, c.byte_offset_of-off.ensures, c.ram_addr_of-addr.ensures, c.address_of-address.ensures)
