use Rattle.std.proofs.Common.{◌++◌, ◌∙◌, ap}
use Rattle.txn_script_orders.proofs.Listing.{behind}
use Rattle.txn_script_orders.proofs.explore.list.Goals as goal

pub returns : goal.returns
returns c =
    let listed = c.args.listed.now in
    record {
      orders = c.args.heading.orders;
      images = c.args.heading.images;
      clients = listed.clients.items;
      script = listed.script.items;
      printed = listed.printed.items;
      prints = c.requires;
      whole = behind _ c.push_bytes.new.text.items c.push_line.new.text.items c.push_bytes-2.new.text.items c.push_bytes-3.new.text.items c.push_bytes-4.new.text.items c.push_bytes-5.new.text.items c.push_bytes-6.new.text.items _ _ _ _
          c.in_ok-push_bytes.ensures
          c.in_ok-push_line.ensures
          (c.in_ok-push_bytes-2.ensures ∙ ap (λ it. c.push_line.new.text.items ++ it) c.as_slice.ensures.value)
          c.in_ok-push_bytes-3.ensures
          (c.in_ok-push_bytes-4.ensures ∙ ap (λ it. c.push_bytes-3.new.text.items ++ it) c.as_slice-2.ensures.value)
          c.in_ok-push_bytes-5.ensures
          (c.in_ok-push_bytes-6.ensures ∙ ap (λ it. c.push_bytes-5.new.text.items ++ it) c.as_slice-3.ensures.value);
    }
