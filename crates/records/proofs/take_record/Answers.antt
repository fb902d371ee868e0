use Rattle.records.proofs.Requests.{read_at}
use Rattle.records.proofs.take_record.Goals as goal

pub returns-in-Read : goal.returns-in-Read
returns-in-Read c = read_at _ _ _ c.requires c.in-Ok.ensures c.in-Read.is c.read.ensures.value
