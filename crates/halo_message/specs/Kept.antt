-- What is kept of a message.
use Rattle.std.specs.Prelude.{◌≡◌, ◌+◌, ◌*◌, ◌≤◌}
use Rattle.part_geometry.specs.Shape.{IsShape, recv_total, send_total}
use Rattle.halo_message.specs.declared.TheConstants.{ELEMENT_BYTES}
use Rattle.halo_message.specs.declared.message.Message.TheInside.{Inside}
use Rattle.halo_message.specs.Message.{IsMessage, Message, elements, shape_of}

abbrev pub message_of : Inside → Message
message_of k = record {
  values = k.values;
  send_parts = k.geometry.send_parts;
  recv_parts = k.geometry.recv_parts;
  grain = k.geometry.grain;
  depth = k.geometry.depth;
}

-- the elements and the geometry are those of the message, which keeps the limits
pub record IsKept (k : Inside) : Type 0 where
  pub limits : IsMessage (message_of k)
  pub elements : k.elements ≡ elements (message_of k)
  pub enough : k.values ≤ k.elements
  pub few : k.elements ≤ k.values + 8191
  pub geometry : k.geometry ≡ shape_of (message_of k)
  pub send : send_total k.geometry ≡ k.elements * ELEMENT_BYTES
  pub recv : recv_total k.geometry ≡ k.elements * ELEMENT_BYTES
  pub shape : IsShape k.geometry
