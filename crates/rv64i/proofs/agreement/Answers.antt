-- `rv64i::agreement` meets its contract: the groups, put together. Assumes nothing.
use mathlib.Core.Path.{ap, ◌∙◌}
use Rattle.expand.specs.Rows.{shifts}
use Rattle.rv64i.specs.Agreement.{Agreement}
use Rattle.rv64i.proofs.OneRow as one_row
use Rattle.rv64i.proofs.SixRows.{shifting, shifts-agree}
use Rattle.rv64i.proofs.Reached.{premises}
use Rattle.rv64i.proofs.agreement.Goals as goal

agreement : Agreement
agreement =
    record {
      operations = λ i rows inst c e h. one_row.operations rows inst c h i e;
      immediates = λ i rows inst c e h. one_row.immediates rows inst c h i e;
      constant_shifts = λ i rows inst c e m h. one_row.constant_shifts rows inst c h i e m;
      shifts = λ i rows inst c e p h. shifts-agree rows inst c h e.encoded.word (ap shifts e.encoded.funct3 ∙ shifting i) p i e;
      loads = λ i rows inst c e l h. one_row.loads rows inst c h i e l;
      stores = λ i rows inst c e l h. one_row.stores rows inst c h i e l;
      branches = λ i rows inst c e h. one_row.branches rows inst c h i e;
      lui = λ rows inst c w z h. one_row.lui rows inst c h w z;
      premises = premises;
    }

pub returns : goal.returns
returns c = agreement
