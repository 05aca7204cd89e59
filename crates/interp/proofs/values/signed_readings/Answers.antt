use Rattle.interp.proofs.values.Readings.{signed_claims}
use Rattle.interp.proofs.values.signed_readings.Goals as goal

pub returns : goal.returns
returns c = signed_claims
