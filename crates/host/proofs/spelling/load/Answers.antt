-- Each record by its own words.
use Rattle.host.proofs.Spelled.{read_is}
use Rattle.host.proofs.spelling.load.Goals as goal

pub returns : goal.returns
returns c =
    read_is _ c.worker_at.ensures c.worker_at-2.ensures c.worker_at-3.ensures c.worker_at-4.ensures c.worker_at-5.ensures c.worker_at-6.ensures c.worker_at-7.ensures c.worker_at-8.ensures
