-- `last_writer::index_laws` ensures the claim. Assumes nothing.
use Rattle.interp.proofs.Above.{demand}
use Rattle.last_writer.proofs.Laws.{index-laws}
use Rattle.last_writer.proofs.index_laws.Goals as goal

pub returns : goal.returns
returns c = index-laws demand
