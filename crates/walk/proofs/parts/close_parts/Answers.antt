-- `close_parts` meets its contract: the closure is that of the words of the levels, which all words begin with.
use mathlib.Core.Path.{◌∙◌}
use Rattle.walk.proofs.Parted.{whole_closes, whole_rest, part_between, part_founded, part_rest, part_sized}
use Rattle.walk.proofs.parts.close_parts.Goals as goal

pub close-requires-clause-founded : goal.close-requires-clause-founded
close-requires-clause-founded c =
    let cut = c.split_at_mut-levels.ensures in
    part_founded _ _ _ _ (cut.front_len ∙ c.args.net.now.setting.all_levels) _ cut.value c.requires.founded

pub close-requires-clause-rest_but : goal.close-requires-clause-rest_but
close-requires-clause-rest_but c set told =
    let cut = c.split_at_mut-levels.ensures in
    part_rest _ _ _ _ (cut.front_len ∙ c.args.net.now.setting.all_levels) _ cut.value set (c.requires.rest_but set told)

pub returns-clause-closes : goal.returns-clause-closes
returns-clause-closes c P between =
    let cut = c.split_at_mut-levels.ensures in
    let all = cut.front_len ∙ c.args.net.now.setting.all_levels in
    whole_closes _ _ _ _ (c.close.auto.words ∙ all) P c.close.result
    (c.close.ensures.closed.closes P (part_between _ _ _ _ all _ cut.value P between))

pub returns-clause-resting : goal.returns-clause-resting
returns-clause-resting c e =
    let all = c.split_at_mut-levels.ensures.front_len ∙ c.args.net.now.setting.all_levels in
    whole_rest _ _ _ _ (c.close.auto.words ∙ all) 0 (c.close.ensures.resting e)

pub close-requires-clause-sized : goal.close-requires-clause-sized
close-requires-clause-sized c =
    let cut = c.split_at_mut-levels.ensures in
    part_sized _ _ _ _ (cut.front_len ∙ c.args.net.now.setting.all_levels) _ cut.value c.requires.sized
