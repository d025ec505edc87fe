-- The calls of a script of manifests, by their texts, and the events that they are.
use Rattle.std.specs.Prelude.{ℕ, ◌<◌, ◌^◌, List, ◌∷◌, ◌++◌, codes, decimal}
use Rattle.txn_history.specs.declared.event.EventOf.{EventOf}
use Rattle.txn_history.specs.declared.event.EventOf.TheVariants as events
use Rattle.txn_history.specs.Trace.{Event}
use Rattle.txn_script_lines.specs.Numerals.{pair_text, PairFits}
use Rattle.txn_script_lines.specs.Grammar.{call_text, CallFits}
use Rattle.txn_manifest.specs.declared.manifest.Manifest.{Manifest}
use Rattle.txn_manifest.specs.declared.event.ManifestEvent.{ManifestEvent}
use Rattle.txn_manifest.specs.declared.event.ManifestEvent.TheVariants as made
use Rattle.txn_manifest.specs.Text.{manifest_text, IsManifest}
use Rattle.txn_script.specs.declared.manifest_call.OwnCall.{OwnCall}
use Rattle.txn_script.specs.declared.manifest_call.OwnCall.TheVariants.{Checkpoint, Release, SetPayload, Fence, Sweep}
use Rattle.txn_script.specs.declared.manifest_call.ManifestCall.{ManifestCall}
use Rattle.txn_script.specs.declared.manifest_call.ManifestCall.TheVariants.{Any, Own}

-- a call that only manifests have: its word, the number of its view, and an id or a payload
abbrev pub own_text : OwnCall → List ℕ
own_text (Checkpoint view) = codes "checkpoint" ++ (32 ∷ decimal view)
own_text (Release view id) = codes "release" ++ (32 ∷ pair_text view id)
own_text (SetPayload view payload) = codes "payload" ++ (32 ∷ pair_text view payload)
own_text (Fence view) = codes "fence" ++ (32 ∷ decimal view)
own_text (Sweep view id) = codes "sweep" ++ (32 ∷ pair_text view id)

abbrev pub manifest_call_text : ManifestCall → List ℕ
manifest_call_text (Any call) = call_text manifest_text call
manifest_call_text (Own call) = own_text call

-- each number is below 2 ^ 64, and the pins of each manifest ascend
abbrev pub OwnFits : OwnCall → Type 0
OwnFits (Checkpoint view) = view < 2 ^ 64
OwnFits (Release view id) = PairFits view id
OwnFits (SetPayload view payload) = PairFits view payload
OwnFits (Fence view) = view < 2 ^ 64
OwnFits (Sweep view id) = PairFits view id

abbrev pub ManifestCallFits : ManifestCall → Type 0
ManifestCallFits (Any call) = CallFits IsManifest call
ManifestCallFits (Own call) = OwnFits call

-- the event of manifests that a client's call is
abbrev pub own_event : ℕ → OwnCall → ManifestEvent
own_event client (Checkpoint view) = made.Checkpoint client view
own_event client (Release view id) = made.Release client view id
own_event client (SetPayload view payload) = made.SetPayload client view payload
own_event client (Fence view) = made.Fence client view
own_event client (Sweep view id) = made.Sweep client view id

abbrev pub begin_event : ℕ → ManifestCall → ManifestEvent
begin_event client (Any call) = made.World (events.Begin client call)
begin_event client (Own call) = own_event client call

-- the event of manifests that an event of a script is
abbrev pub event_of : EventOf ManifestCall → ManifestEvent
event_of (events.Begin client call) = begin_event client call
event_of (events.Look op) = made.World (events.Look op)
event_of (events.Serve op) = made.World (events.Serve op)
event_of (events.Fail op failure) = made.World (events.Fail op failure)
event_of (events.GiveUp op) = made.World (events.GiveUp op)
event_of (events.Land loose) = made.World (events.Land loose)
event_of (events.Crash client) = made.World (events.Crash client)

-- an event of the world, as one of a script
abbrev pub as_manifests : Event Manifest → EventOf ManifestCall
as_manifests (events.Begin client call) = events.Begin client (Any call)
as_manifests (events.Look op) = events.Look op
as_manifests (events.Serve op) = events.Serve op
as_manifests (events.Fail op failure) = events.Fail op failure
as_manifests (events.GiveUp op) = events.GiveUp op
as_manifests (events.Land loose) = events.Land loose
as_manifests (events.Crash client) = events.Crash client
