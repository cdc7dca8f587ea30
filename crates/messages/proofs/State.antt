-- The state of a run: the record says which channels each message has taken, each message is on its way, and the tables are those of the start.
use mathlib.Core.Path.{◌≡◌, refl, sym, ◌∙◌, ap}
use mathlib.Core.Bool.{Bool, true, false}
use mathlib.Core.List.{List}
use Prim.Native.Nat.{ℕ, suc, ◌+◌, ◌*◌, ◌≤◌, ◌<◌, min, zero-le}
use native.Mathlib.Omega.{arith}
use lib.ListN.{length, get_or, length-replicate}
use Rattle.finite.specs.Truth.{non, same}
use Rattle.finite.proofs.Truth.{no_tf, refute, false-non, ne_same, same_refl}
use Rattle.finite.proofs.Sum.{sum-zero}
use Rattle.finite.proofs.Lists.{get_or-zeros, tabulate-length, tabulate-at}
use Rattle.lawful.specs.Turn.{label_in}
use Rattle.lawful.proofs.Climb.{climbing-run}
use Rattle.claims.specs.Claims.{Progress, made}
use Rattle.claims.proofs.Holding.{holds-held}
use Rattle.hops.specs.Tabled.{class_of, Tabled}
use Rattle.hops.proofs.Leads.{class-is-free}
use Rattle.messages.specs.Sizes.{max_messages, max_channels}
use Rattle.messages.specs.Channels.{injection, all_taken}
use Rattle.messages.specs.declared.Record.{Record}
use Rattle.messages.specs.Step.{want, head, target, class, is_delivered}
use Rattle.messages.specs.Fresh.{source_in, target_in, zeros, begun_of}
use Rattle.messages.specs.Runs.{Listed, messages_in, route_in, itinerary_in}
use Rattle.messages.specs.Tells.{keeps, Says}
use Rattle.messages.proofs.Way.{OnWay, way-start}

-- what no move changes, and the sizes of the arrays
pub record Kept (n : ℕ) (labels free falling list : List ℕ) (r : Record) : Type 0 where
  pub nodes : r.nodes ≡ n
  pub messages : r.messages ≡ messages_in list
  pub labels_are : r.labels ≡ labels
  pub free_are : r.free ≡ free
  pub falling_are : r.falling ≡ falling
  pub targets : (m : ℕ) → m < max_messages → target r m ≡ target_in list m
  pub heads_size : length r.heads ≡ max_messages
  pub classes_size : length r.classes ≡ max_messages
  pub wants-size : length r.wants ≡ max_messages
  pub delivered_size : length r.delivered ≡ max_messages
  pub holders_size : length r.holders ≡ max_channels

-- the message is free: RULES 5.1, "(class 0)"
unfoldable pub is_channel_free : Record → ℕ → Bool
is_channel_free r m = same (class r m) 0

-- the class as a number says whether it is free
pub free-is : (r : Record) (m : ℕ) {c : Bool} → class r m ≡ class_of c → is_channel_free r m ≡ c
unfolding is_channel_free
free-is r m {c} e = ap (λ (x : ℕ). same x 0) e ∙ class-is-free c

-- message m is on its way along its route
abbrev pub OnRoute : ℕ → (ℕ → ℕ → Bool) → List ℕ → List ℕ → ℕ → ℕ → Bool → ℕ → Type 0
OnRoute n edge labels list m = OnWay n edge (label_in labels) (source_in list m) (target_in list m) (route_in n edge labels list m)

-- how many hops along its route the head of message m is once it has taken channel j: as many as channels are taken before it, and all of them at the end
abbrev pub hops_to : ℕ → (ℕ → ℕ → Bool) → List ℕ → List ℕ → ℕ → ℕ → ℕ
hops_to n edge labels list m j = min j (length (route_in n edge labels list m))

pub record State (n : ℕ) (edge : ℕ → ℕ → Bool) (labels free falling list : List ℕ) (r : Record) (s : Progress) : Type 0 where
  pub says : Says n edge labels list r s
  pub kept : Kept n labels free falling list r
  pub way : (m : ℕ) → m < messages_in list → OnRoute n edge labels list m (hops_to n edge labels list m (s.taken m)) (is_channel_free r m) (head r m)
  pub classed : (m : ℕ) → m < messages_in list → class r m ≡ class_of (is_channel_free r m)

-- nobody has taken anything
abbrev pub none-taken : Progress
none-taken = record { taken = λ m. 0; done = λ m. false }

zeros-length : (n : ℕ) → length (zeros n) ≡ n
unfolding zeros
zeros-length n = length-replicate {A = ℕ} n 0

zeros-at : (n i : ℕ) → get_or (zeros n) i 0 ≡ 0
unfolding zeros
zeros-at n i = get_or-zeros n i

none_made : (k : ℕ) → made k none-taken ≡ 0
unfolding made
none_made k = sum-zero k _ (λ m l. refl)

module _ {n : ℕ} {edge : ℕ → ℕ → Bool} {labels free falling list : List ℕ} (tabled : Tabled n edge labels free falling) (listed : Listed n list) where
  pub few-messages : messages_in list ≤ max_messages
  unfolding messages_in
  few-messages = let l = listed.short in omega arith

  pub source-low : (m : ℕ) → m < messages_in list → source_in list m < n
  unfolding messages_in
  source-low m l = listed.nodes (2 * m) (omega arith)

  pub target-low : (m : ℕ) → m < messages_in list → target_in list m < n
  unfolding messages_in
  target-low m l = listed.nodes (2 * m + 1) (omega arith)

  abbrev start : Record
  start = begun_of n labels free falling list

  start-kept : Kept n labels free falling list start
  unfolding begun_of messages_in
  start-kept = record {
    nodes = refl;
    messages = let l = listed.short in omega arith;
    labels_are = refl;
    free_are = refl;
    falling_are = refl;
    targets = λ m l. tabulate-at max_messages (target_in list) m 0 l;
    heads_size = tabulate-length max_messages (source_in list);
    classes_size = zeros-length max_messages;
    wants-size = tabulate-length max_messages _;
    delivered_size = zeros-length max_messages;
    holders_size = zeros-length max_channels;
  }

  start-head : (m : ℕ) → m < messages_in list → head start m ≡ source_in list m
  unfolding begun_of
  start-head m l = let b = few-messages in tabulate-at max_messages (source_in list) m 0 (omega arith)

  start-want : (m : ℕ) → m < messages_in list → want start m ≡ get_or (itinerary_in n edge labels list m) 0 all_taken
  unfolding begun_of itinerary_in
  start-want m l = let b = few-messages in tabulate-at max_messages (λ m. injection (source_in list m)) m 0 (omega arith)

  start-class : (m : ℕ) → class start m ≡ 0
  unfolding begun_of
  start-class m = zeros-at max_messages m

  start-free : (m : ℕ) → is_channel_free start m ≡ true
  start-free m = free-is start m {c = true} (start-class m)

  start-says : Says n edge labels list start none-taken
  unfolding begun_of is_delivered
  start-says = record {
    lawful = record { within = λ m l. zero-le; finished = λ m l d. no_tf d refl };
    wants = start-want;
    done = λ m l. ap (λ (x : ℕ). non (same x 0)) (zeros-at max_messages m) ∙ false-non (same_refl 0);
    held = λ c m l.
        ap (λ (x : ℕ). same x (suc m)) (zeros-at max_channels c) ∙ ne_same (λ e. omega arith)
        ∙ sym (refute _ (λ h. let b = (holds-held (itinerary_in n edge labels list) keeps none-taken m c h).before in omega arith));
    owners = λ c. let z = zeros-at max_channels c in omega arith;
    count = sym (none_made (messages_in list));
  }

  start-way : (m : ℕ) → m < messages_in list → OnRoute n edge labels list m (hops_to n edge labels list m 0) (is_channel_free start m) (head start m)
  unfolding route_in
  start-way m l =
      let z : hops_to n edge labels list m 0 ≡ 0 = omega arith in
      let r = climbing-run n edge (label_in labels) tabled.climbing tabled.network.undirected (source_in list m) (target_in list m) (source-low m l) (target-low m l) in
      rw (z, start-free m, start-head m l)
      (way-start tabled.network.inside (target-low m l) (source-low m l) _ r.1)

  pub start-state : State n edge labels free falling list start none-taken
  start-state = record {
    says = start-says;
    kept = start-kept;
    way = start-way;
    classed = λ m l. rw (start-free m) (start-class m);
  }
