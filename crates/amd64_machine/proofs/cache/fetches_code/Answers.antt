use Rattle.amd64_machine.proofs.Fetching.{fetches}
use Rattle.amd64_machine.proofs.cache.fetches_code.Goals as goal

pub returns : goal.returns
returns c = fetches
