-- Packed blocks place by place.
mod Places
