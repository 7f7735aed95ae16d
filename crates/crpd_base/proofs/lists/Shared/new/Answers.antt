use Rattle.crpd_base.proofs.lists.Shared.new.Goals as goal

pub returns : goal.returns
returns g c = c.in_ok-list.ensures
