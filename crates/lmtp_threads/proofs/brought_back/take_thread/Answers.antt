use Rattle.lmtp_threads.proofs.brought_back.take_thread.Goals as goal

pub returns : goal.returns
returns g c = record {
  lent = c.into_iter.result;
  tells = c.into_iter.ensures.rest;
  is = c.push.ensures;
}
