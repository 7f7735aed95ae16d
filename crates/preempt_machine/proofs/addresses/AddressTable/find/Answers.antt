use Rattle.std.proofs.Common.{◌∙◌, length-set}
use Rattle.std.proofs.lemmas.List.Elements.{All-set}
use Rattle.preempt_machine.specs.Inner.Addresses.{IsDecoded}
use Rattle.preempt_machine.proofs.addresses.AddressTable.find.Goals as goal

pub returns-clause-decoded : goal.returns-clause-decoded
returns-clause-decoded c =
    let places = c.args.self.now.places.items in
    record {
      long = length-set places _ _ ∙ c.requires.long;
      each =
          All-set (IsDecoded c.args.geometry.now.platform c.args.code.now) places _
          c.at_address-found.result c.at_address-found.ensures.is c.requires.each;
    }

pub returns-then-kept-address-clause-address : goal.returns-then-kept-address-clause-address
returns-then-kept-address-clause-address c = c.if-kept-address.true
