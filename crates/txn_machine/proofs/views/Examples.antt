-- A run: a client makes the first version and a view of it, and claims that, so the steps are met.
use Rattle.std.proofs.Common.{ℕ, ◌+◌, List, Option, Some, None, inl, inr, refl}
use Rattle.txn_history.specs.declared.event.ViewCall.TheVariants as view_calls
use Rattle.txn_history.specs.declared.event.Call.{Call}
use Rattle.txn_history.specs.declared.event.Call.TheVariants as any
use Rattle.txn_machine.specs.views.Layer.{Inner, Writes, Layer, Goes, Opens, starting, opening, opened, turned, with_row}
use Rattle.txn_machine.specs.views.Parts.{Wrote, entered}
use Rattle.txn_machine.specs.views.Steps.{LayerBegins, Takes, Creates, Runs, IsHeld, Makeable}
use Rattle.txn_history.specs.declared.trace.RowOf.TheVariants.{Effect}

module _ {T : Type 0} (decode : List ℕ → Option T) (get_epoch : T → ℕ) (set_epoch : T → ℕ → T) (v : T) (m : Makeable decode get_epoch set_epoch v) where
  abbrev init : Call T
  init = any.View (view_calls.Init v)

  abbrev claim : Call T
  claim = any.View (view_calls.Claim 1)

  abbrev epoch : ℕ
  epoch = get_epoch v + 1

  abbrev write : Inner T
  write = Writes 0 v (get_epoch v)

  abbrev attempt : Inner T
  attempt = Writes 1 (set_epoch v epoch) epoch

  abbrev one : Layer T
  one = turned (opened opening 1 init) 1 (starting 1 init) (Goes write)

  abbrev two : Layer T
  two = with_row one (Effect 1 m.first)

  abbrev three : Layer T
  three = turned two 1 (record { client = 1; call = init; inner = write }) (Opens 1 v)

  abbrev four : Layer T
  four = turned (opened three 1 claim) 2 (starting 1 claim) (Goes attempt)

  abbrev five : Layer T
  five = with_row four (Effect 2 m.second)

  abbrev six : Layer T
  six = turned five 2 (record { client = 1; call = claim; inner = attempt }) (entered claim 2 (set_epoch v epoch) epoch)

  step_one : LayerBegins decode get_epoch set_epoch opening one
  step_one = record { client = 1; call = init; allowed = tt; opens = record { next = refl; shown = refl; known = refl; low = refl; keeps = refl }; next = Goes write; first = inl refl; has = refl; new = refl }

  step_two : Creates decode get_epoch set_epoch one two
  step_two = record { write = record { op = 1; base = 0; value = v }; asked = inl refl; due = (get_epoch v, refl); request = m.first; bytes = m.bytes; creates = m.creates; reads = m.reads; place = inl refl; new = refl }

  step_three : Takes decode get_epoch set_epoch two three
  step_three =
      record {
        of = record { op = 1; client = 1; call = view_calls.Init v; inner = write; runs = refl };
        answer = Wrote 1;
        fits = (refl, record { create = record { place = 1; request = m.first; bytes = m.bytes; effect = refl; creates = m.creates; begun = refl }; first = refl; reads = m.reads });
        next = Opens 1 v;
        makes = inl refl;
        has = tt;
        new = refl;
      }

  step_four : LayerBegins decode get_epoch set_epoch three four
  step_four =
      record {
        client = 1;
        call = claim;
        allowed = record { used = record { view = record { client = 1; id = 1; object = v; epoch = None }; busy = None }; there = refl; own = refl; free = refl; kind = refl };
        opens = record { next = refl; shown = refl; known = refl; low = refl; keeps = refl };
        next = Goes attempt;
        first = inl (rw m.room refl);
        has = m.reads_back;
        new = refl;
      }

  step_five : Creates decode get_epoch set_epoch four five
  step_five = record { write = record { op = 2; base = 1; value = set_epoch v epoch }; asked = inl refl; due = (epoch, refl); request = m.second; bytes = m.more; creates = m.creates_more; reads = m.reads_more; place = inl (rw m.creates refl); new = refl }

  step_six : Takes decode get_epoch set_epoch five six
  step_six =
      record {
        of = record { op = 2; client = 1; call = view_calls.Claim 1; inner = attempt; runs = refl };
        answer = Wrote 2;
        fits = (refl, record { create = record { place = 4; request = m.second; bytes = m.more; effect = refl; creates = m.creates_more; begun = refl }; first = rw m.creates refl; reads = m.reads_more });
        next = entered claim 2 (set_epoch v epoch) epoch;
        makes = inl refl;
        has = tt;
        new = refl;
      }

  pub claimed_run : (s : Layer T) × Runs decode get_epoch set_epoch 6 opening s × IsHeld s 1 epoch
  claimed_run = (
    six,
    (one, inl step_one, (two, inr (inr (inr (inl step_two))), (three, inr (inl step_three), (four, inl step_four, (five, inr (inr (inr (inl step_five))), (six, inr (inl step_six), refl)))))),
    record { used = record { view = record { client = 1; id = 2; object = set_epoch v epoch; epoch = Some epoch }; busy = None }; there = refl; holder = refl },
  )
