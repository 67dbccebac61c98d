use Rattle.std.proofs.Common.{ap, ◌∙◌, rules}
use Rattle.hosts.specs.Feeds.{fed}
use Rattle.hosts.proofs.Shows.{shown_next}
use Rattle.hosts.proofs.feed.FeedHost.advance.Goals as goal

pub returns : goal.returns
returns c =
    record {
      same = search rules;
      own = c.take_next.ensures.after;
      count = λ fs k stood. c.take_next.ensures.after ∙ ap fed stood ∙ shown_next fs k;
    }
