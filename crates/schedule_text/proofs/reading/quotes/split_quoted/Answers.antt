use Rattle.schedule_text.proofs.Finding.{unquotes-start}
use Rattle.schedule_text.proofs.reading.quotes.split_quoted.Goals as goal

pub loop-bytes-init : goal.loop-bytes-init
loop-bytes-init c = rw c.new-bytes.ensures.items (unquotes-start c.args.text.now c.bytes_after-rest.result.now c.bytes_after-rest.ensures)
