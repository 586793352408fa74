mod Holding
mod Sending
