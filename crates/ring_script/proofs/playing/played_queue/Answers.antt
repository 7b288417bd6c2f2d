use Rattle.std.proofs.Common.{◌∙◌}
use Rattle.ring_script.proofs.Played.{all_shown}
use Rattle.ring_script.proofs.playing.played_queue.Goals as goal

pub push_ending-requires : goal.push_ending-requires
push_ending-requires c = c.in_ok-play_queue.ensures.ok.ring ∙ c.requires.ring

pub returns-clause-text : goal.returns-clause-text
returns-clause-text c =
    all_shown c.args.world.now c.play_queue.new.world c.args.ring.now c.args.events.now c.in_ok-out.out.items c.play_queue.new.out.items c.push_ending.new.out.items
    c.requires.ring c.requires.opening c.in_ok-out.ensures.items c.in_ok-play_queue.ensures.ok c.in_ok-push_ending.ensures.ok
