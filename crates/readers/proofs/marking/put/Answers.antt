-- `put` meets its contract: one word is written.
use Rattle.readers.proofs.MarkLaws.{put_raised, put_has}
use Rattle.readers.proofs.marking.put.Goals as goal

pub returns : goal.returns
returns c =
    let a = c.args in
    let h = c.requires in
    record { raised = put_raised a.words.now a.k a.set h; added = put_has a.words.now a.k a.set h }
