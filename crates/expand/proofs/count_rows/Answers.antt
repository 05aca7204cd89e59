use Rattle.std.proofs.Common.{rules, ◌≡◌, ◌∙◌, ◌^◌, ◌≤◌, length, arith}
use Rattle.std.specs.Prelude.{sum_by}
use Rattle.std.proofs.iter.runs.Made.{chains}
use Rattle.std.proofs.lemmas.Iterator.{YieldsList-from_slice}
use Rattle.std.proofs.lemmas.Iterator.Adapters.{fits_from_length, at_most_from_yields_List}
use Rattle.expand.specs.Expand.{rows_of}
use Rattle.expand.proofs.Expansion.{count_sum, rows_few}
use Rattle.expand.proofs.count_rows.Goals as goal

-- at most six rows for each word, of which memory holds less than 2^61
pub sum-requires-clause-fits : goal.sum-requires-clause-fits
sum-requires-clause-fits c =
    let few : length c.args.program.now ≤ 2 ^ 61 = omega arith in
    fits_from_length _ _ (2 ^ 61) (2 ^ 64) (at_most_from_yields_List (YieldsList-from_slice c.args.program.now cc) few) c.map.ensures.closure (omega arith) (λ x r q k. search (rules, rows_few))

pub returns : goal.returns
returns c =
    let added : c.sum.result ≡ sum_by (λ raw. length (rows_of raw)) c.args.program.now = search (rules, chains) in
    added ∙ count_sum c.args.program.now
